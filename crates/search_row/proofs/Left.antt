-- The turns that are left, of n that are enough.
--     left     how many of n turns the machine takes
--     turn     a turn leaves fewer, and the n turns end where they ended before it
--     longer   more turns are enough too
-- Assumes nothing.
use Rattle.std.proofs.Common.{◌≡◌, refl, sym, ◌∙◌, ap, ℕ, zero, suc, ◌<◌, ◌≤◌, Bool, true, false, cond, arith}
use Rattle.search_steps.specs.Machine.{Config, next, after, after_none, after_next, after_idle}

pub left : ℕ → Config → ℕ
left zero c = 0
left (suc n) c = cond c.state.busy (suc (left n (next c))) 0

-- one turn more than enough changes nothing
one_more : (n : ℕ) (c : Config) → (after n c).state.busy ≡ false → (after (suc n) c ≡ after n c) × (left (suc n) c ≡ left n c)
unfolding left
one_more zero c h =
    let i : c.state.busy ≡ false = ap (λ (d : Config). d.state.busy) (sym (after_none c)) ∙ h in
    (after_idle (suc zero) c i ∙ sym (after_none c), ap (λ (b : Bool). cond b (suc (left zero (next c))) 0) i)
one_more (suc n) c h = go c.state.busy refl (one_more n (next c))
  where
    go : (b : Bool) → c.state.busy ≡ b
        → ((after n (next c)).state.busy ≡ false → (after (suc n) (next c) ≡ after n (next c)) × (left (suc n) (next c) ≡ left n (next c)))
        → (after (suc (suc n)) c ≡ after (suc n) c) × (left (suc (suc n)) c ≡ left (suc n) c)
    go true e rec =
        let k = rec (ap (λ (d : Config). d.state.busy) (sym (after_next n c e)) ∙ h) in
        (after_next (suc n) c e ∙ k.0 ∙ sym (after_next n c e), ap (λ (m : ℕ). cond c.state.busy (suc m) 0) k.1)
    go false e rec = (
      after_idle (suc (suc n)) c e ∙ sym (after_idle (suc n) c e),
      ap (λ (b : Bool). cond b (suc (left (suc n) (next c))) 0) e ∙ sym (ap (λ (b : Bool). cond b (suc (left n (next c))) 0) e),
    )

pub turn : (n : ℕ) (c : Config) → (after n c).state.busy ≡ false → c.state.busy ≡ true
    → (after n (next c) ≡ after n c) × (left n (next c) < left n c)
unfolding left
turn n c h b =
    let k = one_more n c h in
    let l : left (suc n) c ≡ suc (left n (next c)) = ap (λ (b : Bool). cond b (suc (left n (next c))) 0) b in
    (sym (after_next n c b) ∙ k.0, omega (arith, k.1, l))

pub longer : (m n : ℕ) (c : Config) → m ≤ n → (after m c).state.busy ≡ false → (after n c).state.busy ≡ false
longer zero n c l h =
    let i : c.state.busy ≡ false = ap (λ (d : Config). d.state.busy) (sym (after_none c)) ∙ h in
    ap (λ (d : Config). d.state.busy) (after_idle n c i) ∙ i
longer (suc m) zero c l h = absurd (omega arith)
longer (suc m) (suc n) c l h = go c.state.busy refl (longer m n (next c) (omega arith))
  where
    go : (b : Bool) → c.state.busy ≡ b → ((after m (next c)).state.busy ≡ false → (after n (next c)).state.busy ≡ false)
        → (after (suc n) c).state.busy ≡ false
    go true e rec = ap (λ (d : Config). d.state.busy) (after_next n c e) ∙ rec (ap (λ (d : Config). d.state.busy) (sym (after_next m c e)) ∙ h)
    go false e rec = ap (λ (d : Config). d.state.busy) (after_idle (suc n) c e) ∙ e
