-- raise brings each number of carriers up to date, from the largest down, so that the one below is still the old one.
use Prim.Native.Nat.{ℕ, ◌≤◌, ◌<◌}
use mathlib.Core.Path.{◌≡◌}
use mathlib.Core.List.{List}
use lib.ListN.{length, get_or}
use Rattle.quantities.specs.Limits.{core_limit}
use Rattle.analysis.specs.Engine.{raised_at}
use Rattle.analysis.proofs.raise.Given as goal

-- the entries above m are the raised ones, the others are as they were
pub record In (carriers without carrying : ℕ) (old mosts : List ℕ) (m : ℕ) : Type 0 where
  pub le : m ≤ carriers
  pub long : length mosts ≡ core_limit
  pub done : (j : ℕ) → m < j → j ≤ carriers → get_or mosts j 0 ≡ raised_at old without carrying j
  pub kept : (j : ℕ) → j ≤ m → get_or mosts j 0 ≡ get_or old j 0

abbrev pub invariant-loop-m : goal.invariant-loop-m
invariant-loop-m l = In l.carriers l.without.0 l.carrying.0 l.initial.mosts l.mosts l.m
