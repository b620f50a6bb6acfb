-- Reading a rule and a slip: the refusals in their order, each over the whole text, each at its leftmost place.
use Rattle.std.specs.Prelude.{◌≡◌, ◌⊎◌, List, [], ◌∷◌, ℕ, ◌<◌, length}
use Rattle.std.proofs.Math.Logic.{ite}
use Rattle.std.proofs.Math.Option.{Option, none, some, map, get_or}
use Rattle.std.proofs.Math.Decide.{dec_lt}
use Rattle.base_limits.specs.Limits.{most_terms, most_items, most_rule_bytes, most_slip_bytes}
use Rattle.text_grammar.specs.Grammar.{Raw, Says}
use Rattle.text_grammar.specs.Place.{Stops}
use Rattle.text_grammar.specs.Machine.{parse, place2}
use Rattle.text_grammar.specs.Leftmost.{leftmost, LeftmostAt}
use Rattle.text_grammar.specs.Tokens.{Token, tokens, FifthField, TooMany, TokenOver, NotLinear, TokenVar, fifth?, many?, token_over?}
use Rattle.text_grammar.specs.Tokens.{not_linear?}
use Rattle.text_grammar.specs.Tokens.{token_var?}
use Rattle.text_grammar.specs.Terms.{OurFields, fields_of}

-- why a text is refused: document 01's reasons, and document 02's "a right-side variable that the left lacks", which one side alone
-- never meets
pub data Reason : Type 0 where
  long grammar fields terms limits linear variable unknown : Reason

-- the documents' numbers
abbrev pub number : Reason → ℕ
number long = 1
number grammar = 2
number fields = 3
number terms = 4
number limits = 5
number linear = 6
number variable = 7
number unknown = 10

-- what is read: how many bytes a text and terms a field may have, and the refusals in the order in which they are tried
pub record Sort : Type 0 where
  pub bytes : ℕ
  pub width : ℕ
  pub order : List Reason

-- a rule's side alone. Document 02: "The whole text may have 4,096 bytes"
abbrev pub rule : Sort
rule = record { bytes = most_rule_bytes; width = most_terms; order = long ∷ grammar ∷ fields ∷ terms ∷ limits ∷ linear ∷ [] }

abbrev pub slip : Sort
slip = record { bytes = most_slip_bytes; width = most_items; order = long ∷ grammar ∷ fields ∷ terms ∷ limits ∷ variable ∷ [] }

-- the terms that a reason is about, behind the terms before them
abbrev pub Bad : ℕ → Reason → List Token → Token → Type 0
Bad w long b m = ⊥
Bad w grammar b m = ⊥
Bad w fields b m = FifthField m
Bad w terms b m = TooMany w m
Bad w limits b m = TokenOver m
Bad w linear b m = NotLinear b m
Bad w variable b m = TokenVar m
Bad w unknown b m = ⊥

abbrev pub bad? : (w : ℕ) (r : Reason) (b : List Token) (m : Token) → Dec (Bad w r b m)
bad? w long b m = no (λ h. h)
bad? w grammar b m = no (λ h. h)
bad? w fields b m = fifth? b m
bad? w terms b m = many? w b m
bad? w limits b m = token_over? b m
bad? w linear b m = not_linear? b m
bad? w variable b m = token_var? b m
bad? w unknown b m = no (λ h. h)

abbrev pub place_of_token : Token → ℕ
place_of_token m = m.place

-- some term of what t says is bad, and p is the place of the first
abbrev pub FirstBad : ℕ → Reason → List ℕ → ℕ → Type 0
FirstBad w r t p = (x : List (List Raw)) × Says t x × LeftmostAt (Bad w r) place_of_token (tokens x) p

-- THE REFUSALS: t is refused for r at p, if none that is tried before applies
abbrev pub Refuses : Sort → List ℕ → Reason → ℕ → Type 0
Refuses S t long p = (S.bytes < length t) × (p ≡ S.bytes)
Refuses S t grammar p = Stops t p
Refuses S t fields p = FirstBad S.width fields t p
Refuses S t terms p = FirstBad S.width terms t p
Refuses S t limits p = FirstBad S.width limits t p
Refuses S t linear p = FirstBad S.width linear t p
Refuses S t variable p = FirstBad S.width variable t p
Refuses S t unknown p = FirstBad S.width unknown t p

-- THE ORDER: the first that applies, or none does
abbrev pub Never : (ℕ → Type 0) → Type 0
Never R = (p : ℕ) → R p → ⊥

abbrev pub NoReason : (Reason → ℕ → Type 0) → List Reason → Type 0
NoReason R [] = Unit {0}
NoReason R (r ∷ rs) = Never (R r) × NoReason R rs

abbrev pub FirstReason : (Reason → ℕ → Type 0) → List Reason → Reason → ℕ → Type 0
FirstReason R [] s p = ⊥
FirstReason R (r ∷ rs) s p = ((r ≡ s) × R r p) ⊎ (Never (R r) × FirstReason R rs s p)

-- the reasons tried before one
abbrev pub earlier : Reason → List Reason
earlier long = []
earlier grammar = long ∷ []
earlier fields = long ∷ grammar ∷ []
earlier terms = long ∷ grammar ∷ fields ∷ []
earlier limits = long ∷ grammar ∷ fields ∷ terms ∷ []
earlier linear = long ∷ grammar ∷ fields ∷ terms ∷ limits ∷ []
earlier variable = long ∷ grammar ∷ fields ∷ terms ∷ limits ∷ []
earlier unknown = long ∷ grammar ∷ fields ∷ terms ∷ limits ∷ linear ∷ []

-- the same, computed
abbrev pub said : List ℕ → List (List Raw)
said t = get_or (parse t) []

abbrev pub first_bad : ℕ → Reason → List (List Raw) → Option ℕ
first_bad w r x = map place_of_token (leftmost (Bad w r) (bad? w r) [] (tokens x))

abbrev pub longer : ℕ → ℕ → Option ℕ
longer n m = ite (dec_lt n m) (some n) none

abbrev pub place_of : Sort → List ℕ → Reason → Option ℕ
place_of S t long = longer S.bytes (length t)
place_of S t grammar = place2 t
place_of S t fields = first_bad S.width fields (said t)
place_of S t terms = first_bad S.width terms (said t)
place_of S t limits = first_bad S.width limits (said t)
place_of S t linear = first_bad S.width linear (said t)
place_of S t variable = first_bad S.width variable (said t)
place_of S t unknown = first_bad S.width unknown (said t)

-- what reading answers: a refusal with its place, or what it accepts
pub data OutcomeOf (X : Type 0) : Type 0 where
  refused : Reason → ℕ → OutcomeOf X
  accepted : X → OutcomeOf X

module _ {X : Type 0} where
  abbrev pub tell : Reason → Option ℕ → OutcomeOf X → OutcomeOf X
  tell r none o = o
  tell r (some p) o = refused r p

  abbrev pub chain : (Reason → Option ℕ) → List Reason → X → OutcomeOf X
  chain f [] a = accepted a
  chain f (r ∷ rs) a = tell r (f r) (chain f rs a)

abbrev pub Outcome : Type 0
Outcome = OutcomeOf OurFields

-- READING
abbrev pub read : Sort → List ℕ → Outcome
read S t = chain (place_of S t) S.order (fields_of (said t))

-- one side of a rule, as document 01 reads it
abbrev pub read_side : List ℕ → Outcome
read_side t = read rule t

abbrev pub read_slip : List ℕ → Outcome
read_slip t = read slip t
