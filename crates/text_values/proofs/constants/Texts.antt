-- The bytes of a string in an array of their own, zeros behind them: an array that passes the test is the one value of such bytes.
use mathlib.Core.Path.{◌≡◌, refl}
use mathlib.Core.Logic.{◌↔◌}
use mathlib.Core.Bool.{true, ◌&&◌, not}
use mathlib.Core.List.{List, map-id}
use Prim.Native.Nat.{ℕ, ◌≤◌}
use borrow.Author.Tests.{leb-true, le-leb, eqb-true, eq-eqb}
use lib.Dec.{eqb, leb}
use lib.ListN.{length, take}
use Rattle.base_limits.specs.Limits.{longest_string}
use Rattle.base_lists.specs.Seqs.{All}
use Rattle.base_lists.specs.Truths.{both_is, not_is}
use Rattle.text_grammar.specs.Bytes.{Inside}
use Rattle.text_values.specs.canonical.Filled.{pad}
use Rattle.text_values.specs.constants.Constants.{is_inside, is_zero, text_ok}
use Rattle.text_values.proofs.canonical.Arrays.{Stands, array_count, array_few, array_in, array_encode_view, array_good}

inside_is : (b : ℕ) → (is_inside b ≡ true) ↔ Inside b
inside_is b = (to, from)
  where
    to : is_inside b ≡ true → Inside b
    to h =
        let p = (both_is (leb 32 b) (leb b 126 && not (eqb b 34))).0 h in
        let q = (both_is (leb b 126) (not (eqb b 34))).0 p.1 in
        (leb-true 32 b p.0, leb-true b 126 q.0, λ e. (not_is (eqb b 34)).0 q.1 (eq-eqb b 34 e))

    from : Inside b → is_inside b ≡ true
    from h =
        (both_is (leb 32 b) (leb b 126 && not (eqb b 34))).1 (
          le-leb 32 b h.0,
          (both_is (leb b 126) (not (eqb b 34))).1 (le-leb b 126 h.1, (not_is (eqb b 34)).1 (λ e. h.2 (eqb-true b 34 e))),
        )

byte_stands : Stands (λ (b : ℕ). b) (λ (b : ℕ). b) is_inside is_zero 0 Inside
byte_stands =
    record {
      view_in = λ b h. (inside_is b).0 h;
      encode_view = λ b h. refl;
      encode_good = λ b h. (inside_is b).1 h;
      view_encode = λ b h. refl;
      blank_is = λ b. (λ h. eqb-true b 0 h, λ e. eq-eqb b 0 e);
    }

-- the first k bytes of an array, and zeros behind them
module _ (k : ℕ) (s : List ℕ) (h : text_ok k s ≡ true) where
  pub text_count : length (take k s) ≡ k
  text_count = rw map-id at (array_count byte_stands longest_string k s h)

  pub text_few : k ≤ longest_string
  text_few = array_few byte_stands longest_string k s h

  pub text_in : All Inside (take k s)
  text_in = rw map-id at (array_in byte_stands longest_string k s h)

  pub text_pad : pad longest_string 0 (take k s) ≡ s
  text_pad = simp map-id at (array_encode_view byte_stands longest_string k s h)

pub text_good : (s : List ℕ) → All Inside s → length s ≤ longest_string → text_ok (length s) (pad longest_string 0 s) ≡ true
text_good s h k = simp map-id at (array_good byte_stands longest_string s k h)
