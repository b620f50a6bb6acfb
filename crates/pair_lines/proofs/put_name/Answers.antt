use mathlib.Core.Path.{◌≡◌, sym, ap, ◌∙◌}
use mathlib.Core.List.{[], ◌∷◌, ◌++◌}
use Prim.Native.Nat.{ℕ}
use Rattle.text_grammar.specs.Numbers.{digits_of}
use Rattle.text_grammar.specs.Letters.{letter_at}
use Rattle.pair_lines.specs.Lines.{tag_of, blank}
use Rattle.pair_lines.proofs.Puts.{puts_as, puts_next, blank_led}
use Rattle.pair_lines.proofs.put_name.Goals as goal
use Rattle.pair_lines.proofs.put_name.Goals.{else-right, then-right}

pub returns : goal.returns
returns c =
    let z = c.args in
    let at = z.at in
    let l = z.out.now in
    let m = tag_of z.right in
    let k = letter_at z.rank in
    let A = c.put_blank-a in
    let B = c.put_byte-b in
    let C = c.put_byte-c in
    let tag : c.if-right.put_byte ≡ m = elim c.if-right.branch [
      | then-right w ↦ w.put_byte-is ∙ ap tag_of (sym w.if-right.true)
      | else-right w ↦ w.put_byte-is ∙ ap tag_of (sym w.if-right.false)
    ] in
    let second = puts_as A.result A.new.out (ap (λ (b : ℕ). b ∷ []) tag) B.ensures in
    let third = puts_as B.result B.new.out (ap (λ (b : ℕ). b ∷ []) c.letter_at.ensures) C.ensures in
    let end = puts_next (digits_of z.n) (61 ∷ []) C.result C.new.out c.put_digits-d.ensures c.put_byte.ensures in
    let named = puts_next (k ∷ []) (digits_of z.n ++ 61 ∷ []) B.result B.new.out third end in
    let tagged = puts_next (m ∷ []) (k ∷ (digits_of z.n ++ 61 ∷ [])) A.result A.new.out second named in
    let t = m ∷ (k ∷ (digits_of z.n ++ 61 ∷ [])) in
    puts_as at l (blank_led z.led at t) (puts_next (blank z.led at) t at l A.ensures tagged)
