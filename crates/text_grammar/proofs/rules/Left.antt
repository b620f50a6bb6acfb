-- The left side of an accepted rule text: its text is the front of the text, and is read by document 01's reading as the left side.
use mathlib.Core.Path.{◌≡◌, refl, sym, ◌∙◌, ap, subst}
use mathlib.Core.Option.{Option, none, some}
use mathlib.Core.List.{List, [], ◌∷◌}
use Prim.Native.Nat.{ℕ}
use native.Mathlib.Omega.{arith}
use lib.ListN.{length, take}
use lib.Seq.{take-length, take-append_seam}
use Rattle.text_grammar.specs.Grammar.{Raw, spell_t, Says}
use Rattle.text_grammar.specs.Leftmost.{NoneOf}
use Rattle.text_grammar.specs.Tokens.{tokens, NotLinear}
use Rattle.text_grammar.specs.Terms.{fields_of}
use Rattle.text_grammar.specs.Read.{fields, terms, limits, linear, accepted, read_side}
use Rattle.text_grammar.proofs.Accepted.{clean_from, grammar_never}
use Rattle.text_grammar.proofs.Theorems as text
use Rattle.text_grammar.specs.rules.Sides.{Sides, one, two, SaysRule}
use Rattle.text_grammar.specs.rules.Place.{cut, left_part, left_text}
use Rattle.text_grammar.specs.rules.Tokens.{left_side}
use Rattle.text_grammar.specs.rules.Read.{OurRule, both_fields, read_rule}
use Rattle.text_grammar.proofs.rules.Parse.{cut_iff, cut_one}
use Rattle.text_grammar.proofs.rules.Read.{rule_accepted}
use Rattle.text_grammar.proofs.rules.Clean.{Clean}
use Rattle.text_grammar.proofs.rules.Accepted.{reasons_leave, side_short}

-- it is the front of the text
pub left_front : (t : List ℕ) → take (length (left_text t)) t ≡ left_text t
left_front t = go (cut t) refl
  where
    go : (o : Option (List ℕ × List ℕ)) → cut t ≡ o → take (length (left_part t o)) t ≡ left_part t o
    go none e = take-length t
    go (some c) e =
        let h = (cut_iff t c.0 c.1).0 e in
        ap (take (length c.0)) h.1 ∙ take-append_seam c.0 (61 ∷ (62 ∷ c.1))

pub left_says : (t : List ℕ) (s : Sides) → SaysRule t s → Says (left_text t) (left_side s)
left_says t (one x) h = subst (λ (o : Option (List ℕ × List ℕ)). Says (left_part t o) x) (sym (cut_one t (x, h))) h
left_says t (two x y) h =
    let e = (cut_iff t (spell_t x) (spell_t y)).1 ((x, (h.0.0, refl)), h.1) in
    subst (λ (o : Option (List ℕ × List ℕ)). Says (left_part t o) x) (sym e) (h.0.0, refl)

-- a clean side that is linear is accepted
side_accepted : (a : List ℕ) (x : List (List Raw)) → Says a x → Clean x → NoneOf NotLinear [] (tokens x) → read_side a ≡ accepted (fields_of x)
side_accepted a x h c n =
    let l = side_short x h.0 c in
    let k = ap (λ (z : List ℕ). length z) h.1 in
    (text.rule_accepted a (fields_of x)).1 (
      (
        λ p j. omega (arith, j.0),
        (
          grammar_never a (x, h),
          (clean_from 16 fields a x h c.0, (clean_from 16 terms a x h c.1, (clean_from 16 limits a x h c.2, (clean_from 16 linear a x h n, tt)))),
        ),
      ),
      (x, h, refl),
    )

-- THE LEFT SIDE by itself
pub left_reads : (t : List ℕ) (w : OurRule) → read_rule t ≡ accepted w → read_side (left_text t) ≡ accepted w.0
left_reads t w e =
    let a = (rule_accepted t w).0 e in
    let s = a.1.0 in
    let l = reasons_leave t s a.1.1 a.0 in
    side_accepted (left_text t) (left_side s) (left_says t s a.1.1) l.0 l.2 ∙ ap accepted (same s ∙ ap (λ (z : OurRule). z.0) a.1.2)
  where
    same : (s : Sides) → fields_of (left_side s) ≡ (both_fields s).0
    same (one x) = refl
    same (two x y) = refl
