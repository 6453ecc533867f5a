-- The program's text goes the whole way from a sheet's bytes, and no tool that does prints another.
use Prim.Native.Nat.{ℕ, zero, suc, ◌-◌, ◌/◌, ◌%◌, ◌≤◌, ◌<◌}
use native.Mathlib.Decide.{dec_lt}
use native.Mathlib.Nat.{div-add-mod'}
use native.Mathlib.Omega.{arith}
use mathlib.Core.Path.{◌≡◌, refl, sym, ap, subst, ◌∙◌}
use mathlib.Core.Logic.{⊎_elim}
use mathlib.Core.List.{List, [], ◌∷◌, ◌++◌, map, append_assoc}
use mathlib.Core.Option.{Option, none, some}
use borrow.Author.Tests.{le-ltb}
use lib.ListN.{length, get_or, length-map, length-take}
use lib.Seq.{get_or-take}
use Rattle.laws.proofs.Tests.{not_one}
use Rattle.quantities.specs.Paper.{Paper, fault_paper}
use Rattle.quantities.specs.Row.{row_of}
use Rattle.quantities.specs.declared.Micros.{Micros}
use Rattle.quantities.specs.declared.Row.{Row}
use Rattle.quantities.specs.declared.Fault.{Fault}
use Rattle.laws.specs.Checks.{FirstFailing}
use Rattle.quantities.specs.Checks.{list_fault, list_checks}
use Rattle.quantities.specs.Table.{rows_of}
use Rattle.laws.proofs.Checks.{first_found}
use Rattle.quantities.proofs.Sound.{sound_list_means}
use Rattle.quantities.proofs.Paper.{fault_first}
use Rattle.windows.specs.declared.Answer.{Answer}
use Rattle.windows.specs.declared.Answer.TheVariants.{Shown, NotShown}
use Rattle.windows.specs.Answer.{Judged, judged}
use Rattle.windows.proofs.Judgement.{judged_faulty}
use Rattle.records.specs.declared.RowFields.{RowFields}
use Rattle.entries.specs.declared.Sheet.{Sheet}
use Rattle.entries.specs.Entries.{row_in, no_entry, entries_of, table_of}
use Rattle.sheet.specs.Reader.{read_of}
use Rattle.sheet.proofs.Promises.{table_in_order}
use Rattle.printing.specs.Words.{ascii}
use Rattle.printing.specs.Decimal.{decimal}
use Rattle.lines.specs.Lines.{first_line, row_line, row_lines, shown_line, not_shown_line, refused_line}
use Rattle.printing.proofs.Decimal.{decimal_one, decimal_more}
use Rattle.text.specs.Text.{bound_lines, label_at, judged_text, sheet_text, text_of}
use Rattle.text.proofs.Text.{text_unread, text_read, text_first_bytes}
use Rattle.text.specs.Cases.{sheet_of_document_lem}
use Rattle.text.specs.Printed.{Printed, count_in}
use Rattle.text.proofs.Printed.{text_in_front, nothing_written}
use Rattle.rowpages.specs.Lists.{list_order, ListInRange}
use Rattle.rowpages.specs.Windows.{JudgedBy, EveryRowShown, FirstRowNotShown}
use Rattle.sheetpages.specs.Sheets.{cores_of, tick_of, WholeWith, FirstFault}
use Rattle.promises.specs.Tool.{
  Digits,
  one,
  more,
  InDecimal,
  WordsInBytes,
  first_text,
  row_texts,
  not_shown_text,
  refused_text,
  TextOf,
  turned_away,
  all_shown,
  not_shown_holds,
  WholeWay,
  GoesTheWholeWay,
  OneText,
  OutputOfDocument,
  TextInFront,
  First1024,
}
use Rattle.rowpages.proofs.Lists.{list_order_lem, faulty_list_turned_away, in_range_sound, in_range_taken}
use Rattle.sheetpages.proofs.Sheets.{sheet_turned_away, sheet_either, sheets_read, one_reading}
use Rattle.rowpages.proofs.Windows.{judged_right, one_judgement_by_rules}

-- Digits.
digits_below : (most n : ℕ) → n < most → Digits n (decimal n)
digits_below zero n h = absurd (omega arith)
digits_below (suc most) n h =
    elim (dec_lt n 10) [
      | yes small ↦ rw (decimal_one n small) (one n small)
      | no large ↦
          let tenth = digits_below most (n / 10) (omega arith) in
          let whole = more (n / 10) (n % 10) (decimal (n / 10)) (omega arith) (omega arith) tenth in
          rw (decimal_more n (omega arith)) (rw (div-add-mod' n 10) at whole)
    ]

pub in_decimal : InDecimal
in_decimal n = digits_below (suc n) n (omega arith)

pub words_in_bytes : WordsInBytes
words_in_bytes =
    record {
      line_end = refl;
      space = refl;
      cores = refl;
      tick = refl;
      rows = refl;
      all_shown = refl;
      not_shown_holds = refl;
      refused = refl;
    }

-- The lines on the page are the definitions' own.
three_numbers : (a b c d e f g : List ℕ) → (a ++ b) ++ (c ++ d) ++ (e ++ f) ++ g ≡ a ++ b ++ c ++ d ++ e ++ f ++ g
three_numbers a b c d e f g = simp append_assoc

first_text_lem : (cores tick rows : ℕ) → first_line cores tick rows ≡ first_text cores tick rows
unfolding first_line
first_text_lem cores tick rows =
    three_numbers (ascii "cores ") (decimal cores) (ascii " tick ") (decimal tick) (ascii " rows ")
    (decimal rows) (ascii "\n")

-- the row of an entry in ticks
row_at_lem : (tick : Micros) (entries : List RowFields) (k : ℕ) → k < length entries
    → get_or (map (row_in tick) entries) k (row_of 0 0 0) ≡ row_in tick (get_or entries k no_entry)
row_at_lem tick [] k h = absurd (omega arith)
row_at_lem tick (entry ∷ entries) zero h = refl
row_at_lem tick (entry ∷ entries) (suc k) h = row_at_lem tick entries k (omega arith)

row_texts_lem : (tick : Micros) (entries : List RowFields) (bounds : List ℕ) (k : ℕ) → k ≤ length entries
    → row_lines tick entries bounds k ≡ row_texts entries (map (row_in tick) entries) bounds k
unfolding row_lines row_line
row_texts_lem tick entries bounds zero h = refl
row_texts_lem tick entries bounds (suc k) h =
    rw (row_texts_lem tick entries bounds k (omega arith), row_at_lem tick entries k (omega arith)) (simp append_assoc)

pub refused_text_lem : (number place : ℕ) → refused_line number place ≡ refused_text number place
unfolding refused_line
refused_text_lem number place = simp append_assoc

not_shown_text_lem : (place label : ℕ) → not_shown_line place label ≡ not_shown_text place label
unfolding not_shown_line
not_shown_text_lem place label = simp append_assoc

-- the lines of the rows that a sheet counts stand for its entries
in_entries : (s : Sheet) (k : ℕ) → k < length (entries_of s) → get_or s.entries k no_entry ≡ get_or (entries_of s) k no_entry
unfolding entries_of
in_entries s k h =
    sym (get_or-take s.count s.entries k no_entry (omega (arith, length-take s.count s.entries)))

lines_in_entries : (s : Sheet) (bounds : List ℕ) (k : ℕ) → k ≤ length (entries_of s)
    → row_lines s.tick s.entries bounds k ≡ row_lines s.tick (entries_of s) bounds k
unfolding row_lines
lines_in_entries s bounds zero h = refl
lines_in_entries s bounds (suc k) h =
    rw (lines_in_entries s bounds k (omega arith), in_entries s k (omega arith)) refl

bound_texts : (s : Sheet) (rows : List Row) (bounds : List ℕ) → length bounds ≤ length (entries_of s)
    → bound_lines s rows bounds
    ≡ first_text s.cores s.tick.0 (length rows)
    ++ row_texts (entries_of s) (map (row_in s.tick) (entries_of s)) bounds (length bounds)
unfolding bound_lines
bound_texts s rows bounds h =
    let n = length bounds in
    let first = first_text_lem s.cores s.tick.0 (length rows) in
    rw (first, lines_in_entries s bounds n h, row_texts_lem s.tick (entries_of s) bounds n h) refl

-- The text of a sheet that was read, where its table has the rows of its entries.
module _ (s : Sheet) (table : rows_of (table_of s) ≡ map (row_in s.tick) (entries_of s)) where
  abbrev rows : List Row
  rows = map (row_in s.tick) (entries_of s)

  abbrev j : Judged
  j = judged s.cores rows

  text_judged : sheet_text s ≡ judged_text s rows j
  unfolding sheet_text
  text_judged = rw table refl

  as_many : length rows ≡ length (entries_of s)
  as_many = length-map (entries_of s) (row_in s.tick)

  told : (answer : Answer) → j.answer ≡ answer → JudgedBy s.cores rows j
      → JudgedBy s.cores rows (record { answer = answer; bounds = j.bounds })
  told answer e right =
      subst (λ (a : Answer). JudgedBy s.cores rows (record { answer = a; bounds = j.bounds })) e right

  text_faulty : (fault : Fault) → list_fault s.cores rows ≡ some fault
      → TextOf s.cores s.tick.0 (entries_of s) rows (sheet_text s)
  unfolding list_fault judged_text
  text_faulty fault q =
      let found = fault_first (list_checks s.cores rows) fault q in
      turned_away (fault_paper fault) (rw (list_order_lem s.cores rows) found)
      (text_judged
      ∙ ap (judged_text s rows) (judged_faulty s.cores rows fault q)
      ∙ refused_text_lem (fault_paper fault).number (fault_paper fault).place)

  text_shown : ListInRange s.cores rows → JudgedBy s.cores rows j → EveryRowShown rows j
      → TextOf s.cores s.tick.0 (entries_of s) rows (sheet_text s)
  unfolding judged_text shown_line
  text_shown range right every =
      let many : length j.bounds ≡ length (entries_of s) = every.each ∙ as_many in
      all_shown j.bounds range (told Shown every.says right)
      (text_judged
      ∙ rw (every.says, judged_text, bound_texts s rows j.bounds (omega arith), many, as_many) refl)

  text_not_shown : ListInRange s.cores rows → JudgedBy s.cores rows j → FirstRowNotShown s.cores rows j
      → TextOf s.cores s.tick.0 (entries_of s) rows (sheet_text s)
  unfolding judged_text
  text_not_shown range right first =
      let n = length j.bounds in
      let within : n < length (entries_of s) = omega (arith, first.stands, as_many) in
      let label : label_at s (suc n - 1) ≡ (get_or (entries_of s) n no_entry).label =
      ap (label_at s) {x = suc n - 1} {y = n} (omega arith) ∙ ap (λ (entry : RowFields). entry.label) (in_entries s n within) in
      not_shown_holds n j.bounds range (told (NotShown 8 (suc n)) first.says right)
      (text_judged
      ∙ rw (first.says, judged_text, bound_texts s rows j.bounds (omega arith), as_many, label, not_shown_text_lem) refl)

  text_of_sheet : TextOf s.cores s.tick.0 (entries_of s) rows (sheet_text s)
  text_of_sheet = by_fault (list_fault s.cores rows) refl
    where
      by_fault : (found : Option Fault) → list_fault s.cores rows ≡ found
          → TextOf s.cores s.tick.0 (entries_of s) rows (sheet_text s)
      by_fault (some fault) q = text_faulty fault q
      by_fault none q =
          let range = in_range_sound s.cores rows ((sound_list_means s.cores rows).0 q) in
          let right = judged_right s.cores rows range in
          ⊎_elim (text_shown range right) (text_not_shown range right) right.ends

-- Ours goes the whole way.
whole_way : (sheet : List ℕ) (n : ℕ) → WholeWith sheet n → WholeWay sheet n (text_of sheet)
whole_way sheet n w =
    let s = (read_of sheet).sheet in
    let reads = (sheets_read sheet n w).1 in
    let rows = (table_in_order sheet).1 in
    let text = text_read sheet (read_of sheet) refl (sheets_read sheet n w).0 in
    record {
      found = s;
      reads = reads;
      prints = rw (text, rows) (rw (reads.cores, reads.tick) at (text_of_sheet s rows));
    }

pub goes_the_whole_way : GoesTheWholeWay text_of
goes_the_whole_way =
    record {
      whole = whole_way;
      faulty = λ sheet first fault.
          text_unread sheet (read_of sheet) refl _ (sheet_turned_away sheet first fault).answers
          ∙ refused_text_lem first.number first.place;
    }

-- Another tool that does prints the same text: of the rows as they are read there is one, and of their
-- judgement.
module _ (cores tick : ℕ) (entries : List RowFields) (rows : List Row) where
  -- a list that is turned away is not in range
  not_both : (first : Paper) → FirstFailing (list_order cores rows) first → ListInRange cores rows → ⊥
  not_both first failing range =
      in_range_taken cores rows range _ (faulty_list_turned_away cores rows first failing).answers

  same_first : (a b : Paper) → FirstFailing (list_order cores rows) a
      → FirstFailing (list_order cores rows) b → a ≡ b
  same_first a b p q =
      let found : some a ≡ some b =
      sym (first_found (list_order cores rows) a p) ∙ first_found (list_order cores rows) b q in
      cc

  one_text : (a b : List ℕ) → TextOf cores tick entries rows a → TextOf cores tick entries rows b → a ≡ b
  one_text a b (turned_away first p e) (turned_away other q f) =
      e ∙ ap (λ (one : Paper). refused_text one.number one.place) (same_first first other p q) ∙ sym f
  one_text a b (turned_away first p e) (all_shown bounds range q f) = absurd (not_both first p range)
  one_text a b (turned_away first p e) (not_shown_holds before bounds range q f) = absurd (not_both first p range)
  one_text a b (all_shown bounds range q f) (turned_away first p e) = absurd (not_both first p range)
  one_text a b (not_shown_holds before bounds range q f) (turned_away first p e) = absurd (not_both first p range)
  one_text a b (all_shown xs range p e) (all_shown ys range' q f) =
      let same = one_judgement_by_rules cores rows _ _ p q in
      let bounds : xs ≡ ys = ap (λ (j : Judged). j.bounds) same in
      e ∙ rw bounds (sym f)
  one_text a b (all_shown xs range p e) (not_shown_holds n ys range' q f) =
      let same = one_judgement_by_rules cores rows _ _ p q in
      absurd (not_one (cc (ap (λ (j : Judged). j.answer) same)))
  one_text a b (not_shown_holds n ys range' q f) (all_shown xs range p e) =
      let same = one_judgement_by_rules cores rows _ _ p q in
      absurd (not_one (cc (ap (λ (j : Judged). j.answer) same)))
  one_text a b (not_shown_holds m xs range p e) (not_shown_holds n ys range' q f) =
      let same = one_judgement_by_rules cores rows _ _ p q in
      let bounds : xs ≡ ys = ap (λ (j : Judged). j.bounds) same in
      let answers : NotShown 8 (suc m) ≡ NotShown 8 (suc n) = ap (λ (j : Judged). j.answer) same in
      let places : suc m ≡ suc n = cc in
      let place : m ≡ n = omega arith in
      e ∙ rw (bounds, place) (sym f)

pub one_text_printed : OneText
one_text_printed tool goes sheet =
    ⊎_elim
    (λ (w : (n : ℕ) × WholeWith sheet n). same w.0 (goes.whole sheet w.0 w.1) (whole_way sheet w.0 w.1))
    (λ (f : (first : Paper) × FirstFault sheet first).
    goes.faulty sheet f.0 f.1 ∙ sym (goes_the_whole_way.faulty sheet f.0 f.1))
    (sheet_either sheet)
  where
    same : (n : ℕ) → WholeWay sheet n (tool sheet) → WholeWay sheet n (text_of sheet) → tool sheet ≡ text_of sheet
    same n a b =
        let found = one_reading sheet n a.found b.found a.reads b.reads in
        one_text (cores_of sheet) (tick_of sheet) (entries_of b.found) (rows_of (table_of b.found)) (tool sheet)
        (text_of sheet) (rw found at a.prints) b.prints

-- a buffer with room enough has as many bytes of text as the text is long
text_counted : (sheet buffer after : List ℕ) (count : ℕ) → 2856 ≤ length buffer → Printed sheet buffer after count
    → count ≡ length (text_of sheet)
unfolding count_in
text_counted sheet buffer after count room printed =
    rw (le-ltb (length buffer) 2856 room, count_in) at printed.counts

pub output_of_document : OutputOfDocument
output_of_document = sheet_of_document_lem

pub text_at_the_front : TextInFront
text_at_the_front sheet buffer after count printed = (
  λ room. text_in_front sheet buffer after count room printed,
  λ room. (text_counted sheet buffer after count room printed, printed.enough room),
  λ short. nothing_written sheet buffer after count short printed,
)

pub first_1024 : First1024
first_1024 = text_first_bytes
