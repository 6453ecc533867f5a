-- The rows of a sheet as entries in rising priority, and the table that they give in ticks of a length.
use Rattle.std.specs.Prelude.{ℕ, ◌+◌, ◌-◌, ◌/◌, ◌<◌, ◌≡◌, Bool, false, cond, ◌||◌, List, [], ◌∷◌, ◌++◌, eqb, ltb, length, take, drop, replicate}
use Rattle.laws.specs.Each.{Each}
use Rattle.quantities.specs.Limits.{row_capacity}
use Rattle.quantities.specs.Table.{empty_table, with_row}
use Rattle.quantities.specs.declared.Micros.{Micros}
use Rattle.quantities.specs.declared.Ticks.{Ticks}
use Rattle.quantities.specs.declared.Row.{Row}
use Rattle.quantities.specs.declared.Table.{Table}
use Rattle.records.specs.Records.{blank_fields}
use Rattle.records.specs.declared.RowFields.{RowFields}
use Rattle.entries.specs.declared.Sheet.{Sheet}

-- a time in ticks of a length: whole division, the remainder dropped; a length of 0 gives 0, as `/` does, and
-- no row is read at it, since 19 turns such a board away
unfoldable pub ticks_of : Micros → Micros → Ticks
ticks_of tick time = record { 0 = time.0 / tick.0 }

-- a row record's fields as a row, its times in ticks of a length
unfoldable pub row_in : Micros → RowFields → Row
row_in tick fields =
    record {
      c = ticks_of tick fields.c;
      d = ticks_of tick fields.d;
      t = ticks_of tick fields.t;
    }

-- what stands at a place of a sheet that holds no row
abbrev pub no_entry : RowFields
no_entry = blank_fields

-- the sheet of a board with no row yet
unfoldable pub board_sheet : ℕ → Micros → Sheet
board_sheet cores tick =
    record { cores = cores; tick = tick; count = 0; entries = replicate row_capacity no_entry }

-- the entries of a sheet, from the top
unfoldable pub entries_of : Sheet → List RowFields
entries_of sheet = take sheet.count sheet.entries

-- whether one of the entries has this priority
unfoldable pub used : ℕ → List RowFields → Bool
used priority [] = false
used priority (entry ∷ entries) = eqb entry.priority priority || used priority entries

-- the entries with a new one at its place by number: the new one takes the place of the first entry
-- with a larger number, which goes on in the same way
unfoldable pub inserted : RowFields → List RowFields → List RowFields
inserted new [] = new ∷ []
inserted new (entry ∷ entries) =
    cond (ltb new.priority entry.priority) (new ∷ inserted entry entries) (entry ∷ inserted new entries)

-- the sheet with one row more, at its place by priority; a full sheet stays as it is
unfoldable pub with_entry : Sheet → RowFields → Sheet
with_entry sheet new =
    cond (ltb sheet.count row_capacity)
    (record {
      cores = sheet.cores;
      tick = sheet.tick;
      count = sheet.count + 1;
      entries = inserted new (entries_of sheet) ++ drop (sheet.count + 1) sheet.entries;
    })
    sheet

-- the sheet of a board with these entries, and nothing past them
unfoldable pub sheet_of : ℕ → Micros → List RowFields → Sheet
sheet_of cores tick entries =
    record {
      cores = cores;
      tick = tick;
      count = length entries;
      entries = entries ++ replicate (row_capacity - length entries) no_entry;
    }

-- the entries with new ones at their places, one after the other
unfoldable pub inserted_all : List RowFields → List RowFields → List RowFields
inserted_all [] entries = entries
inserted_all (new ∷ news) entries = inserted_all news (inserted new entries)

-- priorities that rise strictly: each entry has a smaller number than all those below it
abbrev pub Rising : List RowFields → Type 0
Rising [] = Unit {0}
Rising (entry ∷ entries) = Each (λ lower. entry.priority < lower.priority) entries × Rising entries

-- priorities that differ: none is used again
abbrev pub Different : List RowFields → Type 0
Different [] = Unit {0}
Different (entry ∷ entries) = (used entry.priority entries ≡ false) × Different entries

-- a table with the rows of the entries, in ticks of a length, below its own
unfoldable pub table_with : Micros → Table → List RowFields → Table
table_with tick table [] = table
table_with tick table (entry ∷ entries) = table_with tick (with_row table (row_in tick entry)) entries

-- the table of a sheet's rows in ticks of a length, in the order of the entries
unfoldable pub table_in : Sheet → Micros → Table
table_in sheet tick = table_with tick empty_table (entries_of sheet)

-- the table of a sheet's rows in its own ticks
unfoldable pub table_of : Sheet → Table
table_of sheet = table_in sheet sheet.tick
