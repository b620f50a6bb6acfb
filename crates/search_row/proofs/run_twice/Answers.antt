-- The two runs are those of the machine: each starts in the state that the fields and the row make.
use Rattle.std.proofs.Common.{◌≡◌, refl, sym, ◌∙◌, ap, subst, ℕ, List, length, false, arith}
use Rattle.search_steps.specs.Row.{blanks}
use Rattle.text_values.specs.Values.{Field}
use Rattle.search_problems.specs.declared.Problem.{Problem}
use Rattle.search_steps.specs.declared.turns.State.{State}
use Rattle.search_steps.specs.starts.Starts.{begun, again}
use Rattle.search_steps.specs.Machine.{Config, conf, after, Reaches, from_root}
use Rattle.search_row.specs.Answers.{counting, writing}
use Rattle.search_row.proofs.run_twice.Goals as goal

module _ (f g : Field) (row : List Problem) (out : List ℕ) (s : State) (begins : s ≡ begun f g (length row)) where
  first : (c : Config) → Reaches (from_root (conf s row out)) c → Reaches (counting f g row out) c
  first c h = subst (λ (y : State). Reaches (from_root (conf y row out)) c) begins h

  second : (t : Config) (u : State) → u ≡ again s t.state (length out) → from_root (conf u t.row t.out) ≡ writing f g row out t
  second t u e = ap (λ (y : State). from_root (conf y t.row t.out)) (e ∙ ap (λ (y : State). again y t.state (length out)) begins)

pub from_root-requires : goal.from_root-requires
from_root-requires g c =
    subst (λ (y : State). (after g.turns (from_root (conf y c.args.row.now c.args.out.now))).state.busy ≡ false) (sym c.begin-s.ensures) c.requires.count

pub from_root-requires-2 : goal.from_root-requires-2
from_root-requires-2 g c =
    let t : Config = conf c.from_root.new.s c.from_root.new.row c.from_root.new.out in
    subst (λ (y : Config). (after g.turns y).state.busy ≡ false)
    (sym (second c.args.left c.args.right c.args.row.now c.args.out.now c.begin-s.result c.begin-s.ensures t c.again-v.result c.again-v.ensures))
    (c.requires.write t (first c.args.left c.args.right c.args.row.now c.args.out.now c.begin-s.result c.begin-s.ensures t c.from_root.ensures))

pub returns : goal.returns
returns g c =
    let t : Config = conf c.from_root.new.s c.from_root.new.row c.from_root.new.out in
    let v : Config = conf c.from_root-2.new.s c.from_root-2.new.row c.from_root-2.new.out in
    record {
      counted = t;
      counts = first c.args.left c.args.right c.args.row.now c.args.out.now c.begin-s.result c.begin-s.ensures t c.from_root.ensures;
      written = v;
      writes =
          subst (λ (y : Config). Reaches y v)
          (second c.args.left c.args.right c.args.row.now c.args.out.now c.begin-s.result c.begin-s.ensures t c.again-v.result c.again-v.ensures)
          c.from_root-2.ensures;
      answer = c.report.ensures;
      leaves = refl;
      clears = c.blank.ensures ∙ ap blanks (omega arith);
    }
