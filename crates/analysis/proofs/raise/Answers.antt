-- raise brings each number of carriers up to date, from the largest down, so that the one below is still the old one.
use Prim.Native.Nat.{ℕ, zero, suc, ◌+◌, ◌-◌, ◌≤◌, ◌<◌, max}
use native.Mathlib.Omega.{arith}
use native.Mathlib.Decide.{ℕ_discrete as dec_eq}
use mathlib.Core.Path.{◌≡◌, refl, ◌∙◌}
use mathlib.Core.List.{List}
use lib.ListN.{length, get_or, set, length-set}
use lib.Seq.{get_or-set_same, get_or-set_other}
use Rattle.quantities.specs.Limits.{core_limit}
use Rattle.analysis.specs.Engine.{raised_at}
use Rattle.analysis.proofs.raise.Invariants.{In}
use Rattle.analysis.proofs.raise.Goals as goal

module _ (carriers without carrying : ℕ) (old mosts : List ℕ) where
  -- the raised entry, where the old ones still stand at m and below it
  raised_entry : (m n : ℕ) → m ≡ suc n → In carriers without carrying old mosts m
      → max (without + get_or mosts m 0) (carrying + get_or mosts n 0) ≡ raised_at old without carrying m
  unfolding raised_at
  raised_entry m n e i = rw (i.kept m (omega arith), i.kept n (omega arith), e) refl

  -- one turn: the entry m is raised
  turn : (m n : ℕ) → m ≡ suc n → carriers < core_limit → In carriers without carrying old mosts m
      → In carriers without carrying old (set mosts m (max (without + get_or mosts m 0) (carrying + get_or mosts n 0))) n
  turn m n e few i =
      let inside : m < length mosts = omega arith in
      let best = max (without + get_or mosts m 0) (carrying + get_or mosts n 0) in
      record {
        le = omega arith;
        long = length-set mosts m best ∙ i.long;
        done = λ j low high.
            elim (dec_eq j m) [
              | yes same ↦ rw (same, get_or-set_same mosts m best 0 inside) (raised_entry m n e i)
              | no other ↦ rw (get_or-set_other mosts m j best 0 other) (i.done j (omega arith) high)
            ];
        kept = λ j low. rw (get_or-set_other mosts m j best 0 (λ same. omega arith)) (i.kept j (omega arith));
      }

  -- after the last turn the entry 0 is raised
  last : carriers < core_limit → In carriers without carrying old mosts 0
      → (m : ℕ) → m ≤ carriers → get_or (set mosts 0 (get_or mosts 0 0 + without)) m 0 ≡ raised_at old without carrying m
  unfolding raised_at
  last few i zero h = let inside : 0 < length mosts = omega arith in rw (get_or-set_same mosts 0 (get_or mosts 0 0 + without) 0 inside, i.kept 0 (omega arith)) (omega arith)
  last few i (suc m) h = rw (get_or-set_other mosts 0 (suc m) (get_or mosts 0 0 + without) 0 (λ same. omega arith)) (i.done (suc m) (omega arith) h)

pub loop-m-init : goal.loop-m-init
loop-m-init c =
    record {
      le = omega arith;
      long = c.requires.long;
      done = λ j low high. absurd (omega arith);
      kept = λ j h. refl;
    }

pub overflow_add-staying : goal.overflow_add-staying
overflow_add-staying c =
    let m = c.loop-m.m in
    record { fits = omega (arith, c.loop-m.invariant.kept m (omega arith), c.requires.small m (omega arith)) }

pub overflow_add-coming : goal.overflow_add-coming
overflow_add-coming c =
    let n = c.loop-m.m - 1 in
    record { fits = omega (arith, c.loop-m.invariant.kept n (omega arith), c.requires.small n (omega arith)) }

pub loop-m-preserved : goal.loop-m-preserved
loop-m-preserved c =
    let at = c.loop-m in
    let m = at.m in
    rw c.max.ensures
    (turn c.args.carriers c.args.without.0 c.args.carrying.0 c.args.mosts.now at.mosts m (m - 1) (omega arith) (omega arith) at.invariant)

pub overflow_add-mosts : goal.overflow_add-mosts
overflow_add-mosts c =
    record { fits = omega (arith, c.loop-m.invariant.kept 0 (omega arith), c.requires.small 0 (omega arith)) }

pub returns : goal.returns
returns c =
    let at = c.loop-m in
    let over : at.m ≡ 0 = omega arith in
    record {
      long = length-set at.mosts 0 (get_or at.mosts 0 0 + c.args.without.0) ∙ at.invariant.long;
      each = last c.args.carriers c.args.without.0 c.args.carrying.0 c.args.mosts.now at.mosts (omega arith) (rw over at at.invariant);
    }
