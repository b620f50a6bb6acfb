-- The fields of a rule's text are noted one behind the other, and nothing stands between them.
use mathlib.Core.Path.{◌≡◌, refl, sym, ap, ◌∙◌, subst}
use mathlib.Core.Bool.{Bool, true, false}
use mathlib.Core.Option.{Option, none}
use mathlib.Core.List.{List, [], ◌∷◌, ◌++◌, map, foldl, foldl-append, append_assoc, append-nil}
use Prim.Native.Nat.{ℕ, zero, suc, ◌+◌, ◌-◌, ◌*◌, ◌≤◌, ◌<◌}
use native.Mathlib.Omega.{arith}
use lib.ListN.{length, get_or, replicate, length-append, length-map, length-replicate, get_or-replicate, get_or-append, get_or-eq_default}
use lib.Seq.{get_or-append-add}
use Rattle.base_limits.specs.Limits.{most_terms, field_places, pair_fields}
use Rattle.base_lists.specs.Seqs.{All, all_left, all_right}
use Rattle.text_grammar.specs.Grammar.{Raw, spell_f, FieldOk}
use Rattle.text_grammar.specs.Tokens.{tokens_f, tokens_t, tokens, Over, TokenOver}
use Rattle.text_grammar.specs.Terms.{OurTerm, field_of, fields_of}
use Rattle.text_grammar.specs.Read.{limits, accepted, read_side}
use Rattle.text_grammar.proofs.Walk.{walk_says}
use Rattle.text_grammar.proofs.Leftmost.{none_all}
use Rattle.text_grammar.proofs.Fields.{each}
use Rattle.text_grammar.proofs.Accepted.{clean_to, rule_read_lem}
use Rattle.text_grammar.proofs.Theorems.{rule_accepted}
use Rattle.math_overlaps.specs.Shapes.{Side}
use Rattle.math_codes.specs.Entries.{atom_of, field_row, rule_row}
use Rattle.math_codes.specs.Lines.{OurAtom}
use Rattle.math_codes.proofs.Places.{StandAll}
use Rattle.pair_row.specs.Row as row
use Rattle.pair_table.specs.Notes.{note_token, side_noted}
use Rattle.pair_table.proofs.PairsNotes.{Gap}
use Rattle.pair_table.proofs.PairsIndexes.{side_in}
use Rattle.pair_table.proofs.PairsTerms.{field_close}
use Rattle.pair_table.proofs.PairsTexts.{Stood, all_stood, NotedBy, noted_as, field_noted}

-- ---- places without atoms

abbrev Row : Type 0
Row = List (Option OurAtom)

pub gap_at : (p : Row) (n : ℕ) (q : Row) (a b : ℕ) → length p ≡ a → a + n ≡ b → Gap (p ++ (replicate n none ++ q)) a b
gap_at p n q a b e f i l h =
    let k : i ≡ length p + (i - a) = omega (arith, e, l) in
    ap (λ (j : ℕ). get_or (p ++ (replicate n none ++ q)) j none) k
    ∙ get_or-append-add p (replicate n none ++ q) (i - a) none
    ∙ get_or-append (replicate n none) q none (i - a) (omega (arith, f, h, l, length-replicate {A = Option OurAtom} n none))
    ∙ get_or-replicate n (i - a) none none (omega (arith, f, h, l))

-- behind the terms of each field
abbrev pub Gaps : Row → ℕ → List (List OurTerm) → Type 0
Gaps t b [] = Unit {0}
Gaps t b (f ∷ r) = Gap t (b + length f) (b + field_places) × Gaps t (b + field_places) r

field_long : (s : Side) (f : List OurTerm) → length f ≤ most_terms → length (field_row field_places s f) ≡ field_places
field_long s f h =
    omega (
      arith,
      h,
      length-append (map (atom_of s) f) (replicate (field_places - length f) none),
      length-map f (atom_of s),
      length-replicate {A = Option OurAtom} (field_places - length f) none,
    )

pub rule_long : (s : Side) (r : List (List OurTerm)) → All (λ f. length f ≤ most_terms) r → length (rule_row field_places s r) ≡ field_places * length r
rule_long s [] h = omega arith
rule_long s (f ∷ r) h = omega (arith, length-append (field_row field_places s f) (rule_row field_places s r), field_long s f h.0, rule_long s r h.1)

pub gaps_at : (s : Side) (r : List (List OurTerm)) → All (λ f. length f ≤ most_terms) r → (p q : Row) (b : ℕ) → length p ≡ b
    → Gaps (p ++ (rule_row field_places s r ++ q)) b r
gaps_at s [] h p q b e = tt
gaps_at s (f ∷ r) h p q b e = (
  subst (λ (t : Row). Gap t (b + length f) (b + field_places)) (sym spread)
      (gap_at (p ++ map (atom_of s) f) (field_places - length f) (rule_row field_places s r ++ q) (b + length f) (b + field_places)
      (omega (arith, e, length-append p (map (atom_of s) f), length-map f (atom_of s))) (omega (arith, h.0))),
  subst (λ (t : Row). Gaps t (b + field_places) r) (sym apart)
      (gaps_at s r h.1 (p ++ field_row field_places s f) q (b + field_places)
      (omega (arith, e, length-append p (field_row field_places s f), field_long s f h.0))),
)
  where
    apart : p ++ ((field_row field_places s f ++ rule_row field_places s r) ++ q) ≡ (p ++ field_row field_places s f) ++ (rule_row field_places s r ++ q)
    apart = ap (λ (z : Row). p ++ z) (append_assoc (field_row field_places s f) (rule_row field_places s r) q)
        ∙ sym (append_assoc p (field_row field_places s f) (rule_row field_places s r ++ q))

    spread : p ++ ((field_row field_places s f ++ rule_row field_places s r) ++ q)
        ≡ (p ++ map (atom_of s) f) ++ (replicate (field_places - length f) none ++ (rule_row field_places s r ++ q))
    spread =
        ap (λ (z : Row). p ++ z) (append_assoc (field_row field_places s f) (rule_row field_places s r) q
        ∙ append_assoc (map (atom_of s) f) (replicate (field_places - length f) none) (rule_row field_places s r ++ q))
        ∙ sym (append_assoc p (map (atom_of s) f) (replicate (field_places - length f) none ++ (rule_row field_places s r ++ q)))

-- ---- the fields of a text

-- the terms of all fields
abbrev pub flat : List (List OurTerm) → List OurTerm
flat [] = []
flat (f ∷ r) = f ++ flat r

field_next : (s : Bool) (m : ℕ) → row.field_of s (suc m) ≡ suc (row.field_of s m)
field_next true m = omega arith
field_next false m = refl

field_low : (s : Bool) (m : ℕ) → m < 4 → row.field_of s m < 8
field_low true m h = omega arith
field_low false m h = omega arith

module _ (t : Row) (G : ℕ → List OurTerm) (s : Bool) (text : List ℕ) (e : List OurTerm) where
  pub fields_noted : (y : List (List Raw)) (q m f : ℕ) (d : List OurTerm) (x : List ℕ × List ℕ) → row.field_of s m ≡ f → m + length y ≤ 4 → All FieldOk y
      → All (All (λ r. Over r → ⊥)) y → All (λ g. length g ≤ most_terms) (fields_of y) → All (Stood text) (tokens_t q (suc m) y)
      → StandAll t (side_in s) field_places (field_places * f) (fields_of y) → Gaps t (field_places * f) (fields_of y)
      → ((j : ℕ) → j < length y → G (f + j) ≡ get_or (fields_of y) j [])
      → NotedBy t G s text e f [] d (field_places * f) x
      → NotedBy t G s text e (f + length y) [] (d ++ flat (fields_of y)) (field_places * (f + length y)) (foldl (note_token s text) x (tokens_t q (suc m) y))
  fields_noted [] q m f d x is few ok o wide st k g h c =
      subst (λ (z : ℕ). NotedBy t G s text e z [] (d ++ []) (field_places * z) x) (let z : f ≡ f + 0 = omega arith in z)
      (noted_as t G s text e f refl (sym (append-nil d)) refl refl c)
  fields_noted (rs ∷ y) q m f d x is few ok o wide st k g h c =
      let here = tokens_f q (suc m) 1 rs in
      let rest = tokens_t (suc (q + length (spell_f rs))) (suc (suc m)) y in
      let z = foldl (note_token s text) x here in
      let low : f < pair_fields = subst (λ (i : ℕ). i < 8) is (field_low s m (omega arith)) in
      let is' : row.field_of s (suc m - 1) ≡ f = ap (row.field_of s) (let u : suc m - 1 ≡ m = omega arith in u) ∙ is in
      let a = field_noted t G s text e (suc m) f (omega arith) (omega arith) is' low rs q 1 [] d (field_places * f) x ok.0.1 o.0
      (all_left (Stood text) here rest st) k.0 (omega (arith, wide.0)) c in
      let b = field_close t G s f (field_of rs) (d ++ field_of rs) e (field_places * f + length (field_of rs)) z.0 z.1 wide.0
      (sym (h 0 (omega arith)) ∙ ap G (let u : f + 0 ≡ f = omega arith in u))
      (subst (Gap t (field_places * f + length (field_of rs))) (let u : field_places * f + field_places ≡ field_places * suc f = omega arith in u) g.0) a in
      let v : field_places * f + field_places ≡ field_places * suc f = omega arith in
      let r = fields_noted y (suc (q + length (spell_f rs))) (suc m) (suc f) (d ++ field_of rs) z (field_next s m ∙ ap suc is)
      (omega arith) ok.1 o.1 wide.1
      (all_right (Stood text) here rest st) (subst (λ (i : ℕ). StandAll t (side_in s) field_places i (fields_of y)) v k.1)
      (subst (λ (i : ℕ). Gaps t i (fields_of y)) v g.1) (λ j l. ap G (let u : suc f + j ≡ f + suc j = omega arith in u) ∙ h (suc j) (omega arith)) b in
      subst (λ (i : ℕ). NotedBy t G s text e i [] (d ++ flat (fields_of (rs ∷ y))) (field_places * i) (foldl (note_token s text) x (tokens_t q (suc m) (rs ∷ y))))
      (let u : suc f + length y ≡ f + suc (length y) = omega arith in u)
      (noted_as t G s text e (suc f + length y) refl (append_assoc d (field_of rs) (flat (fields_of y))) refl
      (sym (foldl-append (note_token s text) x here rest)) r)

  -- fields that the rule lacks
  pub fields_passed : (k f : ℕ) (d : List OurTerm) (x : List ℕ × List ℕ) → ((j : ℕ) → j < k → G (f + j) ≡ []) → Gap t (field_places * f) (field_places * (f + k))
      → NotedBy t G s text e f [] d (field_places * f) x → NotedBy t G s text e (f + k) [] d (field_places * (f + k)) x
  fields_passed zero f d x h g c = subst (λ (z : ℕ). NotedBy t G s text e z [] d (field_places * z) x) (let z : f ≡ f + 0 = omega arith in z) c
  fields_passed (suc k) f d x h g c =
      subst (λ (z : ℕ). NotedBy t G s text e z [] d (field_places * z) x) (let z : suc f + k ≡ f + suc k = omega arith in z)
      (fields_passed k (suc f) d x (λ j l. ap G (let u : suc f + j ≡ f + suc j = omega arith in u) ∙ h (suc j) (omega arith))
      (λ q a b. g q (omega arith) (omega arith))
      (field_close t G s f [] d e (field_places * f) x.0 x.1 (omega arith) (sym (h 0 (omega arith)) ∙ ap G (let u : f + 0 ≡ f = omega arith in u))
      (λ q a b. g q a (omega arith)) c))

  -- THE RULE that the text says, its fields from f on
  pub rule_noted : (r : List (List OurTerm)) (f : ℕ) (d : List OurTerm) (x : List ℕ × List ℕ) → read_side text ≡ accepted r → row.field_of s 0 ≡ f
      → StandAll t (side_in s) field_places (field_places * f) r → Gaps t (field_places * f) r → Gap t (field_places * (f + length r)) (field_places * (f + 4))
      → ((j : ℕ) → j < 4 → G (f + j) ≡ get_or r j [])
      → NotedBy t G s text e f [] d (field_places * f) x → NotedBy t G s text e (f + 4) [] (d ++ flat r) (field_places * (f + 4)) (side_noted s text x)
  rule_noted r f d x acc is k g gap h c =
      let a = (rule_accepted text r).0 acc in
      let y = a.1.0 in
      let said = a.1.1 in
      let same : fields_of y ≡ r = a.1.2 in
      let left = rule_read_lem text r acc in
      let over = (each (λ u. Over u → ⊥) y 0 1).0 (none_all TokenOver (tokens y) [] (clean_to most_terms limits text y said a.0.1.1.1.1.0)) in
      let many : length y ≡ length r = sym (length-map y field_of) ∙ ap length same in
      let few = left.0.1 in
      let n = fields_noted y 0 0 f d x is (omega (arith, many, few)) said.0.1 over
      (subst (λ (z : List (List OurTerm)). All (λ u. length u ≤ most_terms) z) (sym same) left.0.2) (all_stood text y said.1)
      (subst (StandAll t (side_in s) field_places (field_places * f)) (sym same) k) (subst (Gaps t (field_places * f)) (sym same) g)
      (λ j l. h j (omega (arith, many, few)) ∙ ap (λ (z : List (List OurTerm)). get_or z j []) (sym same)) c in
      let m = noted_as t G s text e (f + length y) refl (ap (λ (z : List (List OurTerm)). d ++ flat z) same) refl
      (ap (foldl (note_token s text) x) (sym (walk_says text y said))) n in
      subst (λ (i : ℕ). NotedBy t G s text e i [] (d ++ flat r) (field_places * i) (side_noted s text x))
      (let u : f + length y + (4 - length y) ≡ f + 4 = omega (arith, many, few) in u)
      (fields_passed (4 - length y) (f + length y) (d ++ flat r) (side_noted s text x)
      (λ j l. ap G (let u : f + length y + j ≡ f + (length y + j) = omega arith in u) ∙ h (length y + j) (omega arith)
      ∙ get_or-eq_default r [] {n = length y + j} (omega (arith, many)))
      (λ q u v. gap q (omega (arith, many)) (omega (arith, many, few))) m)
