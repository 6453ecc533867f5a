-- A run of ticks as the code's loop makes it: none, and one more.
use Rattle.std.proofs.Common.{◌≡◌, ℕ, zero, suc, ◌+◌, refl, add-one}
use Rattle.bench.specs.declared.Bench.{Bench}
use Rattle.bench.specs.History.{after}
use Rattle.bench.specs.Step.{tick}
use Rattle.lentbench.specs.Lent.{ticks_for}

pub no_ticks : (b : Bench) → after b (ticks_for 0) ≡ b
unfolding after ticks_for
no_ticks b = refl

pub one_tick_more : (n : ℕ) (b : Bench) → after b (ticks_for (n + 1)) ≡ (tick (after b (ticks_for n))).bench
unfolding after ticks_for
one_tick_more n b = rw add-one (go n b)
  where
    go : (k : ℕ) (b : Bench) → after b (ticks_for (suc k)) ≡ (tick (after b (ticks_for k))).bench
    go zero b = refl
    go (suc k) b = go k (tick b).bench

pub ruleset run_steps = (no_ticks, one_tick_more)
