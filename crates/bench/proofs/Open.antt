-- Laws of an opening: refused with the fault that checks 1 to 6 find, else the empty bench.
use Rattle.std.specs.Prelude.{Ok, Err}
use Prim.Native.Nat.{ℕ}
use mathlib.Core.Path.{◌≡◌, refl}
use mathlib.Core.Bool.{true}
use Rattle.quantities.specs.Table.{rows_of, empty_table}
use Rattle.laws.specs.Checks.{first_failing}
use Rattle.quantities.specs.Checks.{list_fault, list_checks, fault_from, checked_of}
use Rattle.quantities.specs.declared.Table.{Table}
use Rattle.quantities.specs.declared.Fault.{Fault}
use Rattle.quantities.proofs.Checks.{checked_ok, checked_err}
use Rattle.bench.specs.State.{is_fault, broken}
use Rattle.bench.specs.Step.{empty_bench, no_bench, opened_after, opened, bench_or, opening_of}

-- where the checks find a fault, there is no bench
pub opening_faulty : (cores : ℕ) (table : Table) (fault : Fault) → checked_of (list_fault cores (rows_of table)) ≡ Err fault
    → opening_of cores table ≡ record { found = Err fault; bench = no_bench }
unfolding opening_of opened opened_after checked_of bench_or
opening_faulty cores table fault e = rw (checked_err (list_fault cores (rows_of table)) fault e)

-- where they find none, it is the empty bench of the table
pub opening_sound : (cores : ℕ) (table : Table) → checked_of (list_fault cores (rows_of table)) ≡ Ok tt
    → opening_of cores table ≡ record { found = Ok tt; bench = empty_bench cores table }
unfolding opening_of opened opened_after checked_of bench_or
opening_sound cores table e = rw (checked_ok (list_fault cores (rows_of table)) e)

-- what stands in the place of a bench is broken, so that each call on it gives 29
pub no_bench_broken : broken no_bench ≡ true
unfolding broken no_bench empty_bench empty_table rows_of is_fault list_fault list_checks first_failing fault_from
no_bench_broken = refl

pub ruleset opening_cases = (opening_faulty, opening_sound)
