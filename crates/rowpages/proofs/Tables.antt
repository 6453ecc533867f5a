-- A table is made and checked as specs/Tables.antt says.
use mathlib.Core.Path.{refl, ap, ◌∙◌}
use Rattle.quantities.specs.declared.Table.{Table}
use Rattle.quantities.specs.Table.{rows_of, empty_table, with_row}
use Rattle.quantities.specs.Checks.{list_checks, list_fault, checked_of}
use Rattle.quantities.proofs.Rows.{length_rows, rows_kept, with_row_full, with_row_rows}
use Rattle.quantities.proofs.Sound.{sound_list_means}
use Rattle.rowpages.specs.Tables.{NamedLimits, TableMade, TableChecked}
use Rattle.rowpages.proofs.Lists.{list_order_lem, fault_of_first, sound_in_range}

pub named_limits : NamedLimits
named_limits = record { rows = refl; cores = refl; gap = refl }

pub table_made : TableMade
unfolding rows_of empty_table
table_made =
    record {
      counts = length_rows;
      holds = rows_kept;
      empty = refl;
      one_more = with_row_rows;
      full = λ table row h. length_rows (with_row table row) ∙ ap (λ (t : Table). t.count) (with_row_full table row h);
      full_keeps = λ table row h. ap (λ (t : Table). t.rows) (with_row_full table row h);
    }

pub table_checked : TableChecked
unfolding list_fault checked_of
table_checked =
    record {
      faulty = λ cores table one first.
          ap checked_of (fault_of_first (list_checks cores (rows_of table)) one (rw (list_order_lem cores (rows_of table)) at first));
      sound = λ cores table range.
          ap checked_of ((sound_list_means cores (rows_of table)).1 (sound_in_range cores (rows_of table) range));
    }
