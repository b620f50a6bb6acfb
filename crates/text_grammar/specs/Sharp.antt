-- What stands at the place of a refusal from 3 to 7, said of the text as it is written.
-- `first_bad_lem` of proofs/Sharp says that it is what the refusals say.
use Rattle.std.specs.Prelude.{◌≡◌, List, [], ◌∷◌, ◌++◌, ℕ, suc, ◌≤◌, length}
use Rattle.std.proofs.Math.Option.{some}
use Rattle.std.proofs.Math.ListN.{get_elem?}
use Rattle.base_limits.specs.Limits.{most_fields}
use Rattle.text_grammar.specs.Grammar.{Raw, spell, Says}
use Rattle.text_grammar.specs.Leftmost.{NoneOf}
use Rattle.text_grammar.specs.Tokens.{Token, tokens, Over, NotLinear, IsVar}
use Rattle.text_grammar.specs.Read.{Reason, long, grammar, fields, terms, limits, linear, variable, unknown, Bad}

-- the term of a token stands in t, and the token's place is that of its first byte
pub record Stands (t : List ℕ) (m : Token) : Type 0 where
  pub before : List ℕ
  pub after : List ℕ
  pub there : t ≡ before ++ (spell m.raw ++ after)
  pub from : length before ≡ m.place

-- a token's numbers, both from 1, are those of its term in what is written: term j + 1 of field i + 1
pub record Numbered (x : List (List Raw)) (m : Token) : Type 0 where
  pub i : ℕ
  pub j : ℕ
  pub field : List Raw
  pub in_field : m.in_field ≡ suc i
  pub is_field : get_elem? x i ≡ some field
  pub index : m.index ≡ suc j
  pub is_term_lem : get_elem? field j ≡ some m.raw

-- what a refusal says of the token m, behind the tokens b, for fields of at most w terms
abbrev pub Stated : ℕ → Reason → List Token → Token → Type 0
Stated w long b m = ⊥
Stated w grammar b m = ⊥
-- 3: "a fifth field, at its first byte": term 1 of field 5
Stated w fields b m = (m.in_field ≡ suc most_fields) × (m.index ≡ 1)
-- 4: "a seventeenth term in a field", in a slip "a sixty-fifth term"
Stated w terms b m = m.index ≡ suc w
-- 5: "a value, digit count, variable number or string length over its limit"
Stated w limits b m = Over m.raw
-- 6: "a list variable that occurs earlier in the rule, or that follows another in its field"
Stated w linear b m = NotLinear b m
-- 7: "a variable"
Stated w variable b m = IsVar m.raw
Stated w unknown b m = ⊥

-- THE TERM AT THE PLACE p for which the text t is refused by o: the first bad term of what t says
pub record FirstBadToken (w : ℕ) (o : Reason) (t : List ℕ) (p : ℕ) : Type 0 where
  -- what t says, and its terms with their places: the bad one, those before it and those behind it
  pub said : List (List Raw)
  pub says : Says t said
  pub token : Token
  pub earlier : List Token
  pub later : List Token
  pub split : tokens said ≡ earlier ++ token ∷ later
  -- it is bad, and none before it is
  pub bad : Bad w o earlier token
  pub none_earlier : NoneOf (Bad w o) [] earlier
  -- "the leftmost place is reported, counted from 0. For 4 to 7 it is the first byte of the term"
  pub place : p ≡ token.place
  pub stands : Stands t token
  pub leftmost : (us vs : List Token) (k : Token) → tokens said ≡ us ++ k ∷ vs → Bad w o us k → p ≤ k.place
  -- the number of its field and its number in the field are those of the text, and it is what the refusal says
  pub numbered : Numbered said token
  pub stated : Stated w o earlier token
