-- The sheet's own functions answer as specs/Promised.antt promises.
use Prim.Native.Nat.{ℕ, ◌+◌, ◌<◌}
use native.Mathlib.Nat.{div-zero}
use native.Mathlib.Omega.{arith}
use native.Mathlib.Decide.{ℕ_discrete as dec_eq}
use mathlib.Core.Path.{◌≡◌, refl, sym, ap, subst, ◌∙◌}
use mathlib.Core.Logic.{◌⊎◌, inl, inr}
use mathlib.Core.Bool.{Bool, true, false}
use mathlib.Core.List.{List, [], ◌∷◌, map}
use lib.ListN.{length, drop, replicate, length-take}
use lib.Seq.{take_at, drop_at}
use borrow.Author.Tests.{lt-ltb, le-ltb}
use Rattle.laws.specs.Member.{Member}
use Rattle.laws.proofs.Tests.{not_one}
use Rattle.quantities.specs.Table.{rows_of, empty_table}
use Rattle.quantities.specs.Row.{row_of}
use Rattle.quantities.specs.declared.Micros.{Micros}
use Rattle.quantities.specs.declared.Row.{Row}
use Rattle.quantities.specs.declared.Table.{Table}
use Rattle.records.specs.declared.RowFields.{RowFields}
use Rattle.quantities.specs.Paper.{Paper}
use Rattle.entries.specs.declared.Sheet.{Sheet}
use Rattle.sheet.specs.declared.FirstSheet.{FirstSheet}
use Rattle.sheet.specs.declared.Outcome.{Outcome}
use Rattle.std.specs.Prelude.{Ok, Err}
use Rattle.sheet.specs.Checks.{fault}
use Rattle.sheet.specs.Reader.{refused, unread, ended, first_sheet_of, read_of}
use Rattle.entries.specs.Entries.{ticks_of, row_in, board_sheet, entries_of, used, inserted, with_entry, table_in, table_of}
use Rattle.entries.proofs.Entries.{used_here, used_below}
use Rattle.entries.proofs.Order.{inserted_permuted, inserted_rising, length_inserted}
use Rattle.entries.proofs.Tables.{table_with_rows}
use Rattle.sheet.proofs.Promises.{whole_sheet_is_first, first_sheet_refused, refused_behind_the_first}
use Rattle.sheetpages.specs.Sheets.{SheetRead, TurnedAway}
use Rattle.sheetpages.proofs.Sheets.{sheets_read, sheet_turned_away, rising_by_index, index_rising}
use Rattle.sheetpages.proofs.SheetsRows.{rows_in_ticks}
use Rattle.promised.specs.Promised.{FirstSheetAnswer}
use Rattle.promised.specs.Promised.{entries_in, NoEntries, Uses, UsedAnswer, OneEntryMore, EntryAnswer}
use Rattle.promised.specs.Promised.{RowsOfEntries, RowAnswer}

pub first_sheet_answer : (bytes : List ℕ) (r : FirstSheet) → r ≡ first_sheet_of bytes → FirstSheetAnswer bytes r
unfolding ended unread refused
first_sheet_answer bytes r is =
    record {
      whole = λ sheet rest n w e.
          let (sound, read) = sheets_read sheet n w in
          let first : r ≡ ended (read_of sheet).sheet (length sheet) =
          is ∙ ap first_sheet_of e ∙ whole_sheet_is_first sheet rest sound in (
            ap (λ (f : FirstSheet). f.verdict) first,
            ap (λ (f : FirstSheet). f.end) first,
            subst (SheetRead sheet n) (sym (ap (λ (f : FirstSheet). f.sheet) first)) read,
          );
      faulty = λ one fault other.
          let turned = sheet_turned_away bytes one fault in
          let refused_first = own_fault one other (refused_behind_the_first bytes _ _ turned.answers) in
          let none = first_sheet_refused bytes one.number one.place refused_first in
          let first : r ≡ unread one.number one.place = is ∙ none.0 in (
            ap (λ (f : FirstSheet). f.end) first,
            subst (TurnedAway one.number one.place)
                (none.1 ∙ sym (ap (λ (f : FirstSheet). outcome_of f) first)) turned,
          );
    }
  where
    outcome_of : FirstSheet → Outcome
    outcome_of f = record { verdict = f.verdict; sheet = f.sheet }

    own_fault : (one : Paper) → (one.number ≡ 18 → ⊥)
        → ((first_sheet_of bytes).verdict ≡ Err (fault one.number one.place))
        ⊎ (((first_sheet_of bytes).verdict ≡ Ok tt) × ((first_sheet_of bytes).end < length bytes)
        × (one.number ≡ 18) × (one.place ≡ (first_sheet_of bytes).end))
        → (first_sheet_of bytes).verdict ≡ Err (fault one.number one.place)
    own_fault one other (inl own) = own
    own_fault one other (inr more) = absurd (other more.2)

pub no_entries : (cores : ℕ) (tick : Micros) (r : Sheet) → r ≡ board_sheet cores tick → NoEntries cores tick r
unfolding board_sheet
no_entries cores tick r is = is

-- a priority is used where an entry has it
abbrev Has : (priority : ℕ) → List RowFields → Type 0
Has priority entries = (one : RowFields) × Member one entries × (one.priority ≡ priority)

used_by : (priority : ℕ) (entries : List RowFields) → used priority entries ≡ true → Has priority entries
unfolding used
used_by priority [] e = absurd (not_one cc)
used_by priority (entry ∷ entries) e = go (dec_eq entry.priority priority) (used_by priority entries)
  where
    go : Dec (entry.priority ≡ priority) → (used priority entries ≡ true → Has priority entries)
        → Has priority (entry ∷ entries)
    go (yes same) below = (entry, inl refl, same)
    go (no other) below =
        let (one, stands, has) = below (sym (used_below priority entry entries other) ∙ e) in
        (one, inr stands, has)

by_used : (priority : ℕ) (entries : List RowFields) (one : RowFields) → Member one entries → one.priority ≡ priority
    → used priority entries ≡ true
by_used priority [] one stands has = absurd stands
by_used priority (entry ∷ entries) one stands has =
    go (dec_eq entry.priority priority) stands (λ rest. by_used priority entries one rest has)
  where
    go : Dec (entry.priority ≡ priority) → Member one (entry ∷ entries)
        → (Member one entries → used priority entries ≡ true) → used priority (entry ∷ entries) ≡ true
    go (yes same) stands below = used_here priority entry entries same
    go (no other) (inl is) below = absurd (other (ap (λ (e : RowFields). e.priority) (sym is) ∙ has))
    go (no other) (inr rest) below = used_below priority entry entries other ∙ below rest

pub used_answer : (sheet : Sheet) (priority : ℕ) (r : Bool) → r ≡ used priority (entries_of sheet)
    → UsedAnswer sheet priority r
unfolding entries_of
used_answer sheet priority r is = (
  (λ e.
      let (one, stands, has) = used_by priority (entries_in sheet) (sym is ∙ e) in
      record { one = one; stands = stands; has = has }),
  λ uses. is ∙ by_used priority (entries_in sheet) uses.one uses.stands uses.has,
)

-- a priority that no entry has is not used
unused : (priority : ℕ) (sheet : Sheet) → (Uses sheet priority → ⊥) → used priority (entries_in sheet) ≡ false
unused priority sheet none = go (used priority (entries_in sheet)) refl
  where
    go : (t : Bool) → used priority (entries_in sheet) ≡ t → t ≡ false
    go false e = refl
    go true e =
        let (one, stands, has) = used_by priority (entries_in sheet) e in
        absurd (none (record { one = one; stands = stands; has = has }))

-- the entries that a sheet with one more has
module _ (sheet : Sheet) (new : RowFields) (many : length sheet.entries ≡ 32) (room : sheet.count < 32) where
  abbrev more : List RowFields
  more = inserted new (entries_in sheet)

  abbrev behind : List RowFields
  behind = drop (sheet.count + 1) sheet.entries

  as_many : length more ≡ sheet.count + 1
  as_many =
      omega (arith, length_inserted new (entries_in sheet), length-take sheet.count sheet.entries, many)

  one_entry_more : OneEntryMore sheet new (with_entry sheet new)
  unfolding with_entry entries_of
  one_entry_more =
      let front = take_at more behind (sheet.count + 1) as_many in
      let rest = drop_at more behind (sheet.count + 1) as_many in
      rw (lt-ltb sheet.count 32 room)
      (record {
        count = refl;
        together = rw front (inserted_permuted new (entries_in sheet));
        rising = λ rises none.
            rw front
            (rising_by_index more
            (inserted_rising new (entries_in sheet) (index_rising (entries_in sheet) rises)
            (unused new.priority sheet none)));
        later = rest;
        board = (refl, refl);
      })

pub entry_answer : (sheet : Sheet) (new : RowFields) (r : Sheet) → length sheet.entries ≡ 32
    → r ≡ with_entry sheet new → EntryAnswer sheet new r
unfolding with_entry
entry_answer sheet new r many is =
    record {
      room = λ room. rw is (one_entry_more sheet new many room);
      full = λ full. is ∙ rw (le-ltb sheet.count 32 full) refl;
    }

-- ticks of no length: each time is 0
row_in_none : (entry : RowFields) → row_in (record { 0 = 0 }) entry ≡ row_of 0 0 0
unfolding row_in ticks_of
row_in_none entry = rw (div-zero entry.c.0, div-zero entry.d.0, div-zero entry.t.0) refl

rows_in_none : (entries : List RowFields) → map (row_in (record { 0 = 0 })) entries ≡ replicate (length entries) (row_of 0 0 0)
rows_in_none [] = refl
rows_in_none (entry ∷ entries) = rw (row_in_none entry, rows_in_none entries) refl

pub row_answer : (fields : RowFields) (tick : Micros) (r : Row) → r ≡ row_in tick fields → RowAnswer fields tick r
row_answer fields tick r is =
    record {
      in_ticks = λ some. rw is (rows_in_ticks tick.0 (fields ∷ []) some).0;
      no_tick = λ none. is ∙ rw none (row_in_none fields);
    }

pub table_own : (sheet : Sheet) (r : Table) → r ≡ table_of sheet → r ≡ table_in sheet sheet.tick
unfolding table_of
table_own sheet r is = is

pub rows_of_entries : (sheet : Sheet) (tick : Micros) (r : Table) → length sheet.entries ≡ 32
    → r ≡ table_in sheet tick → RowsOfEntries sheet tick r
unfolding table_in empty_table rows_of entries_of
rows_of_entries sheet tick r many is =
    let few = length-take sheet.count sheet.entries in
    let rows = table_with_rows tick empty_table (entries_in sheet) refl (omega (arith, few)) in
    record {
      in_ticks = λ some. rw (is, rows) (rows_in_ticks tick.0 (entries_in sheet) some);
      no_tick = λ none. rw (is, rows, none) (rows_in_none (entries_in sheet));
    }
