-- One name that opens tables and the checks of a list: with it a case in numbers computes, and `refl` proves it.
use Rattle.laws.specs.Checks.{first_failing}
use Rattle.quantities.specs.Table.{rows_of, empty_table, with_row}
use Rattle.quantities.specs.Checks.{row_checks, rows_checks, list_checks, room_checks}
use Rattle.quantities.specs.Checks.{fault_from, list_fault, lent_fault}
use Rattle.quantities.specs.Paper.{fault_paper}

unfoldable pub checks_compute : Unit {0}
unfolding rows_of empty_table with_row row_checks rows_checks list_checks room_checks first_failing fault_from list_fault
    lent_fault fault_paper
checks_compute = tt
