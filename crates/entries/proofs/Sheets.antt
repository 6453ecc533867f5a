-- Laws of the sheet of a list of entries: what it holds, and one entry more.
use Prim.Native.Nat.{ℕ, suc, ◌+◌, ◌-◌, ◌<◌}
use native.Mathlib.Omega.{arith}
use native.Mathlib.Numerals.{add-one}
use mathlib.Core.Path.{◌≡◌, refl}
use mathlib.Core.List.{List, [], ◌++◌}
use lib.ListN.{length, drop, replicate}
use lib.Seq.{take-append_seam, drop-append-add}
use borrow.Author.Tests.{lt-ltb}
use Rattle.quantities.specs.Limits.{row_capacity}
use Rattle.quantities.specs.declared.Micros.{Micros}
use Rattle.entries.specs.Entries.{no_entry, board_sheet, entries_of, inserted, with_entry, sheet_of}
use Rattle.records.specs.declared.RowFields.{RowFields}
use Rattle.entries.proofs.Order.{length_inserted}

module _ (cores : ℕ) (tick : Micros) where
  pub board_sheet_lem : board_sheet cores tick ≡ sheet_of cores tick []
  unfolding board_sheet sheet_of
  board_sheet_lem = refl

  pub entries_of_sheet : (entries : List RowFields) → entries_of (sheet_of cores tick entries) ≡ entries
  unfolding entries_of sheet_of
  entries_of_sheet entries = take-append_seam entries (replicate (row_capacity - length entries) no_entry)

  pub count_of_sheet : (entries : List RowFields) → (sheet_of cores tick entries).count ≡ length entries
  unfolding sheet_of
  count_of_sheet entries = refl

  pub tick_of_sheet : (entries : List RowFields) → (sheet_of cores tick entries).tick ≡ tick
  unfolding sheet_of
  tick_of_sheet entries = refl

  -- past the entries and one more, one place less is left
  room_left : (entries : List RowFields) → length entries < row_capacity
      → drop (length entries + 1) (entries ++ replicate (row_capacity - length entries) no_entry) ≡ replicate (row_capacity - suc (length entries)) no_entry
  room_left entries h =
      let e : row_capacity - length entries ≡ suc (row_capacity - suc (length entries)) = omega arith in
      rw (drop-append-add entries (replicate (row_capacity - length entries) no_entry) 1, e)

  pub sheet_with : (entries : List RowFields) (new : RowFields) → length entries < row_capacity
      → with_entry (sheet_of cores tick entries) new ≡ sheet_of cores tick (inserted new entries)
  unfolding with_entry sheet_of entries_of
  sheet_with entries new h =
      rw
      (lt-ltb (length entries) row_capacity h, take-append_seam entries (replicate (row_capacity - length entries) no_entry), room_left entries h, length_inserted new entries, add-one)
