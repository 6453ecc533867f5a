-- What the public functions answer, in the promises' own words: a record for each.
use Rattle.std.specs.Prelude.{ℕ, suc, ◌+◌, ◌*◌, ◌≤◌, ◌<◌, ◌≡◌, ◌↔◌, Bool, true, false, cond, List, [], ◌∷◌, ◌++◌, eqb, length, take, drop, replicate}
use Rattle.std.specs.Prelude.{Result, Ok, Err}
use Rattle.laws.specs.Each.{Each}
use Rattle.laws.specs.Member.{Member}
use Rattle.laws.specs.Permuted.{Permuted}
use Rattle.quantities.specs.declared.Micros.{Micros}
use Rattle.quantities.specs.declared.Row.{Row}
use Rattle.quantities.specs.declared.Table.{Table}
use Rattle.quantities.specs.declared.Fault.{Fault}
use Rattle.quantities.specs.Row.{row_of}
use Rattle.quantities.specs.Table.{rows_of}
use Rattle.quantities.specs.Paper.{Paper, paper, checked_paper}
use Rattle.laws.specs.Checks.{Check, FirstFailing}
use Rattle.quantities.specs.Lengths.{numbers}
use Rattle.windows.specs.declared.Answer.{Answer}
use Rattle.windows.specs.declared.Answer.TheVariants.{Shown, NotShown, Refused}
use Rattle.records.specs.declared.Kind.{Kind}
use Rattle.records.specs.declared.Kind.TheVariants as kinds
use Rattle.records.specs.declared.UnknownKind.{UnknownKind}
use Rattle.records.specs.declared.Record.{Record}
use Rattle.records.specs.declared.Record.TheVariants.{Missing, Unknown, Cut, Board, Row as RowOf, End}
use Rattle.records.specs.declared.RowFields.{RowFields}
use Rattle.entries.specs.declared.Sheet.{Sheet}
use Rattle.sheet.specs.declared.FirstSheet.{FirstSheet}
use Rattle.sheet.specs.declared.Outcome.{Outcome}
use Rattle.analysis.specs.declared.Analysis.{Analysis}
use Rattle.lentrows.specs.declared.Told.{Told}
use Rattle.bench.specs.declared.Bench.{Bench}
use Rattle.bench.specs.declared.Refusal.{Refusal}
use Rattle.bench.specs.declared.Refusal.TheVariants.{NoPlace, Unfinished, TooSoon, WrongDemand}
use Rattle.bench.specs.declared.Refusal.TheVariants.{ClockEnd, BrokenRecord}
use Rattle.bench.specs.declared.Finish.{Finish}
use Rattle.bench.specs.declared.Request.{Request}
use Rattle.bench.specs.declared.Request.TheVariants.{Release, Tick}
use Rattle.bench.specs.declared.Opening.{Opening}
use Rattle.bench.specs.declared.Released.{Released}
use Rattle.bench.specs.declared.Ticked.{Ticked as TickedBench}
use Rattle.bench.specs.Refusal.{Outcome as CallOutcome, outcome_paper}
use Rattle.replay.specs.declared.Unanswered.TheVariants.{NotOpened, NoRoom}
use Rattle.replay.specs.Replay.{Replayed, requests_in}
use Rattle.sheetpages.specs.Sheets.{blank_entry, RisingPriority, RowInTicks, RowsInTicks, WholeWith, FirstFault}
use Rattle.sheetpages.specs.Sheets.{SheetRead, TurnedAway}
use Rattle.sheetpages.specs.SheetRecords.{BoardFits, RowFits, board_bytes, row_bytes, end_bytes}
use Rattle.promises.specs.Tool.{refused_text, WholeWay}
use Rattle.rowpages.specs.Lists.{list_order, lent_order, fault_at, ListInRange}
use Rattle.rowpages.specs.Windows.{JudgedBy}
use Rattle.rowpages.specs.Lent.{InEntries, LentJudgement}
use Rattle.benchpages.specs.Calls.{release_order, tick_order, new_bench, blank_bench, RecordBroken, ListsPolls}
use Rattle.benchpages.specs.Moves.{PollStarted, Ticked}
use Rattle.benchpages.specs.CallBytes.{answers_to, ReplayAnswers}

-- `sheet::read`: a sheet without fault is taken, with what stands on it; one with a fault is turned away by
-- its first one.
pub record SheetAnswer (sheet : List ℕ) (r : Outcome) : Type 0 where
  pub whole : (n : ℕ) → WholeWith sheet n → (r.verdict ≡ Ok tt) × SheetRead sheet n r.sheet
  pub faulty : (one : Paper) → FirstFault sheet one → TurnedAway one.number one.place r

-- `sheet::read_first`: a sheet without fault is taken, with what stands on it and the place behind it, whatever bytes
-- follow there; bytes with another first fault than 18, bytes after the end record, are turned away by it, with no end.
pub record FirstSheetAnswer (bytes : List ℕ) (r : FirstSheet) : Type 0 where
  pub whole : (sheet rest : List ℕ) (n : ℕ) → WholeWith sheet n → bytes ≡ sheet ++ rest
      → (r.verdict ≡ Ok tt) × (r.end ≡ length sheet) × SheetRead sheet n r.sheet
  pub faulty : (one : Paper) → FirstFault bytes one → (one.number ≡ 18 → ⊥)
      → (r.end ≡ 0) × TurnedAway one.number one.place (record { verdict = r.verdict; sheet = r.sheet })

-- `text::print_answer`: the text of a sheet is at the front of a lent buffer of 2,856 bytes or more, and
-- every later byte is as it was; a shorter buffer is as it was, and none of its bytes is the text.
pub record TextAnswer (sheet before after : List ℕ) (count : ℕ) : Type 0 where
  pub whole : (n : ℕ) → WholeWith sheet n → 2856 ≤ length before → WholeWay sheet n (take count after)
  pub faulty : (one : Paper) → FirstFault sheet one → 2856 ≤ length before
      → take count after ≡ refused_text one.number one.place
  pub many : length (take count after) ≡ count
  pub later : drop count after ≡ drop count before
  pub short : length before < 2856 → (after ≡ before) × (count ≡ 0)

-- The rows of a table in range are judged: the answer, and its bounds in the first of 32 entries.
pub record TableJudged (cores : ℕ) (rows : List Row) (r : Analysis) : Type 0 where
  pub bounds : List ℕ
  pub right : JudgedBy cores rows (record { answer = r.answer; bounds = bounds })
  pub entries : InEntries bounds (numbers r.bounds)

-- `analysis::analyse`: a table in range is judged, and one with a fault is turned away by it, with no bounds.
pub record AnalysisAnswer (cores : ℕ) (table : Table) (r : Analysis) : Type 0 where
  pub in_range : ListInRange cores (rows_of table) → TableJudged cores (rows_of table) r
  pub faulty : (one : Paper) → FirstFailing (list_order cores (rows_of table)) one
      → (r.answer ≡ Refused (fault_at one.number one.place)) × InEntries [] (numbers r.bounds)

-- `Table::check`: checks 1 to 6 in the order of a list.
pub record TableAnswer (cores : ℕ) (table : Table) (r : Result (Unit {0}) Fault) : Type 0 where
  pub in_range : ListInRange cores (rows_of table) → r ≡ Ok tt
  pub faulty : (one : Paper) → FirstFailing (list_order cores (rows_of table)) one
      → r ≡ Err (fault_at one.number one.place)

-- `Table::empty` has no row. After `Table::push`, and in what `Table::with_row` answers, there is one row more, below
-- the others; a full table then counts 33 rows, so that 1 turns it away.
abbrev pub NoRows : (r : Table) → Type 0
NoRows r = rows_of r ≡ []

pub record OneRowMore (table : Table) (row : Row) (r : Table) : Type 0 where
  pub below : table.count < 32 → rows_of r ≡ rows_of table ++ (row ∷ [])
  pub full : 32 ≤ table.count → length (rows_of r) ≡ 33
  pub keeps : 32 ≤ table.count → r.rows ≡ table.rows

-- The entries of a sheet: the first ones, as many as it counts.
abbrev pub entries_in : Sheet → List RowFields
entries_in sheet = take sheet.count sheet.entries

-- `Sheet::of_board`: a board with no row yet.
abbrev pub NoEntries : (cores : ℕ) → Micros → (r : Sheet) → Type 0
NoEntries cores tick r = r ≡ record { cores = cores; tick = tick; count = 0; entries = replicate 32 blank_entry }

-- `Sheet::is_used`: whether one of the entries has this priority.
pub record Uses (sheet : Sheet) (priority : ℕ) : Type 0 where
  pub one : RowFields
  pub stands : Member one (entries_in sheet)
  pub has : one.priority ≡ priority

abbrev pub UsedAnswer : Sheet → (priority : ℕ) → Bool → Type 0
UsedAnswer sheet priority r = (r ≡ true) ↔ Uses sheet priority

-- `Sheet::with_entry`: one entry more; where they stood in rising priority and none has the new one's, they
-- do again. A full sheet stays as it is.
pub record OneEntryMore (sheet : Sheet) (new : RowFields) (r : Sheet) : Type 0 where
  pub count : r.count ≡ sheet.count + 1
  pub together : Permuted (new ∷ entries_in sheet) (entries_in r)
  pub rising : RisingPriority (entries_in sheet) → (Uses sheet new.priority → ⊥) → RisingPriority (entries_in r)
  pub later : drop (sheet.count + 1) r.entries ≡ drop (sheet.count + 1) sheet.entries
  pub board : (r.cores ≡ sheet.cores) × (r.tick ≡ sheet.tick)

pub record EntryAnswer (sheet : Sheet) (new : RowFields) (r : Sheet) : Type 0 where
  pub room : sheet.count < 32 → OneEntryMore sheet new r
  pub full : 32 ≤ sheet.count → r ≡ sheet

-- `Sheet::table_in`: the rows of the first entries, as many as the sheet counts, in their order and in ticks of a
-- length; a length of 0 gives each time as 0. `Sheet::table`: in the sheet's own ticks.
pub record RowsOfEntries (sheet : Sheet) (tick : Micros) (r : Table) : Type 0 where
  pub in_ticks : 0 < tick.0 → RowsInTicks tick.0 (entries_in sheet) (rows_of r)
  pub no_tick : tick.0 ≡ 0 → rows_of r ≡ replicate (length (entries_in sheet)) (row_of 0 0 0)

-- `Sheet::row_in`: one row in ticks of a length.
pub record RowAnswer (fields : RowFields) (tick : Micros) (r : Row) : Type 0 where
  pub in_ticks : 0 < tick.0 → RowInTicks tick.0 fields r
  pub no_tick : tick.0 ≡ 0 → r ≡ row_of 0 0 0

-- `records::record_on`: what stands on a part of a sheet that begins where a record should.
pub record RecordAnswer (part : List ℕ) (r : Record) : Type 0 where
  pub no_byte : part ≡ [] → r ≡ Missing
  pub unknown : (kind : ℕ) (rest : List ℕ) → part ≡ kind ∷ rest
      → (kind ≡ 1 → ⊥) → (kind ≡ 2 → ⊥) → (kind ≡ 3 → ⊥) → r ≡ Unknown
  pub cut_board : (rest : List ℕ) → part ≡ 1 ∷ rest → length rest < 3 → r ≡ Cut 1
  pub cut_row : (rest : List ℕ) → part ≡ 2 ∷ rest → length rest < 16 → r ≡ Cut 2
  pub cut_end : part ≡ 3 ∷ [] → r ≡ Cut 3
  pub board : (cores tick : ℕ) (rest : List ℕ) → BoardFits cores tick → part ≡ board_bytes cores tick ++ rest
      → r ≡ Board cores (record { 0 = tick })
  pub row : (label priority c d t : ℕ) (rest : List ℕ) → RowFits label priority c d t
      → part ≡ row_bytes label priority c d t ++ rest
      → r
      ≡ RowOf
      (record {
        label = label;
        priority = priority;
        c = record { 0 = c };
        d = record { 0 = d };
        t = record { 0 = t };
      })
  pub end : (count : ℕ) (rest : List ℕ) → count < 256 → part ≡ end_bytes count ++ rest → r ≡ End count

-- `records::Kind::try_from`: the kind that a byte stands for, or the byte where it is not 1, 2 or 3.
pub record KindAnswer (byte : ℕ) (r : Result Kind UnknownKind) : Type 0 where
  pub board : byte ≡ 1 → r ≡ Ok kinds.Board
  pub row : byte ≡ 2 → r ≡ Ok kinds.Row
  pub end : byte ≡ 3 → r ≡ Ok kinds.End
  pub unknown : (byte ≡ 1 → ⊥) → (byte ≡ 2 → ⊥) → (byte ≡ 3 → ⊥) → r ≡ Err (record { 0 = byte })

-- `records::size_on`: the bytes that the record on a part takes, also where it is cut short; 0 where there is no kind.
abbrev pub size_is : List ℕ → ℕ
size_is [] = 0
size_is (kind ∷ rest) = cond (eqb kind 1) 4 (cond (eqb kind 2) 17 (cond (eqb kind 3) 2 0))

-- `records::is_end`.
abbrev pub EndAnswer : Record → Bool → Type 0
EndAnswer found r = (r ≡ true) ↔ ((count : ℕ) × (found ≡ End count))

-- A table with a fault gives no bench: what stands there is broken, so that each call on it gives 29.
pub record NoBench (one : Paper) (r : Opening) : Type 0 where
  pub found : r.found ≡ Err (fault_at one.number one.place)
  pub on_paper : checked_paper r.found ≡ paper one.number one.place
  pub blank : r.bench ≡ blank_bench
  pub no_bench_holds : RecordBroken r.bench

-- `Bench::opened`: a table in range is opened at instant 0, with no row released.
pub record OpeningAnswer (cores : ℕ) (table : Table) (r : Opening) : Type 0 where
  pub in_range : ListInRange cores (rows_of table) → r ≡ record { found = Ok tt; bench = new_bench cores table }
  pub faulty : (one : Paper) → FirstFailing (list_order cores (rows_of table)) one → NoBench one r

-- `Bench::broken`: whether 29 is due.
abbrev pub BrokenAnswer : Bench → Bool → Type 0
BrokenAnswer b r = (r ≡ true) ↔ RecordBroken b

-- `Bench::release`: turned away by the first check that fails, with nothing changed on the bench; taken where
-- none does, and a poll starts.
pub record ReleaseAnswer (b : Bench) (place demand : ℕ) (r : Released) : Type 0 where
  pub turned_away : (one : Paper) → FirstFailing (release_order b place demand) one
      → (outcome_paper r.outcome ≡ paper one.number one.place) × (r.bench ≡ b)
  pub taken : Each (λ one. one.fails ≡ false) (release_order b place demand)
      → PollStarted b place demand (record { outcome = r.outcome; finishes = []; bench = r.bench })

-- A tick that is turned away: its number and place, no poll that ended, and the bench as it was.
pub record TickTurnedAway (b : Bench) (one : Paper) (r : TickedBench) : Type 0 where
  pub on_paper : outcome_paper r.outcome ≡ paper one.number one.place
  pub none_end : ListsPolls [] r.finishes
  pub same_bench : r.bench ≡ b

-- A tick that is taken serves the highest rows, and lists the polls that ended.
pub record TickTaken (b : Bench) (r : TickedBench) : Type 0 where
  pub polls : List Finish
  pub listed : ListsPolls polls r.finishes
  pub serves : Ticked b (record { outcome = r.outcome; finishes = polls; bench = r.bench })

-- `Bench::tick`.
pub record TickAnswer (b : Bench) (r : TickedBench) : Type 0 where
  pub turned_away : (one : Paper) → FirstFailing (tick_order b) one → TickTurnedAway b one r
  pub taken : Each (λ one. one.fails ≡ false) (tick_order b) → TickTaken b r

-- `run`: as many ticks as it is told, each on the bench that the one before it left.
pub data RunsFor : (ticks : ℕ) → (b left : Bench) → Type 0 where
  over : {b : Bench} → RunsFor 0 b b
  one_more : {n : ℕ} {b left : Bench} (r : TickedBench) → TickAnswer b r → RunsFor n r.bench left
      → RunsFor (suc n) b left

-- `Bench::answer`: a tick as above, and a release, which ends no poll.
abbrev pub RequestAnswer : Bench → Request → (r : TickedBench) → Type 0
RequestAnswer b Tick r = TickAnswer b r
RequestAnswer b (Release place demand) r =
    ReleaseAnswer b place demand.0 (record { outcome = r.outcome; bench = r.bench })
    × ListsPolls [] r.finishes

-- `Bench::judge_release` and `Bench::judge_tick`: the first check that fails, or that none does.
pub record OutcomeBy (checks : List (Check Paper)) (r : CallOutcome) : Type 0 where
  pub turned_away : (one : Paper) → FirstFailing checks one → outcome_paper r ≡ paper one.number one.place
  pub taken : Each (λ one. one.fails ≡ false) checks → r ≡ Ok tt

-- `Refusal::number` and `Refusal::place`: 20 to 23 with the place given, 24 and 29 with place 0.
unfoldable pub number_is : Refusal → ℕ
number_is (NoPlace place) = 20
number_is (Unfinished place) = 21
number_is (TooSoon place) = 22
number_is (WrongDemand place) = 23
number_is ClockEnd = 24
number_is BrokenRecord = 29

unfoldable pub place_is : Refusal → ℕ
place_is (NoPlace place) = place
place_is (Unfinished place) = place
place_is (TooSoon place) = place
place_is (WrongDemand place) = place
place_is ClockEnd = 0
place_is BrokenRecord = 0

-- `replay::replay`: every call answered where there is room for all answers; the answers to the first calls
-- where there is none for the next one; and no answer on a board that is not opened.
pub record ReplayAnswer (cores : ℕ) (table : Table) (calls before after : List ℕ) (r : Replayed)
    : Type 0 where
  pub all_room : ListInRange cores (rows_of table)
      → length (answers_to (new_bench cores table) (requests_in calls).list) ≤ length before
      → ReplayAnswers (new_bench cores table) calls before (record { answer = r; out = after })
  pub no_room : ListInRange cores (rows_of table)
      → (done rest : List Request) (next : Request) → (requests_in calls).list ≡ done ++ next ∷ rest
      → length (answers_to (new_bench cores table) done) ≤ length before
      → length before < length (answers_to (new_bench cores table) (done ++ next ∷ []))
      → (r ≡ Err (NoRoom (6 * length done)))
      × (after
      ≡ answers_to (new_bench cores table) done ++ drop (length (answers_to (new_bench cores table) done)) before)
  pub not_opened : (one : Paper) → FirstFailing (list_order cores (rows_of table)) one
      → (r ≡ Err (NotOpened (fault_at one.number one.place))) × (after ≡ before)

-- The rows of a table in range are judged where the bounds list has an entry for each: what is told is the
-- answer, its bounds in the first of 32 entries, and how many they are.
pub record TableTold (cores : ℕ) (rows : List Row) (r : Told) : Type 0 where
  pub bounds : List ℕ
  pub right : JudgedBy cores rows (record { answer = r.answer; bounds = bounds })
  pub entries : InEntries bounds (numbers r.bounds)
  pub shown : r.shown ≡ length bounds

-- `lentrows::answer_for`: a table in range is told so, and one with a fault is turned away by its first one,
-- 7 after the rows' checks, with no bound to write.
pub record ToldAnswer (cores : ℕ) (table : Table) (room : ℕ) (r : Told) : Type 0 where
  pub judges : ListInRange cores (rows_of table) → length (rows_of table) ≤ room → TableTold cores (rows_of table) r
  pub faulty : (one : Paper) → FirstFailing (lent_order cores room (rows_of table)) one
      → (r.answer ≡ Refused (fault_at one.number one.place))
      × InEntries [] (numbers r.bounds)
      × (r.shown ≡ 0)

-- A list in range is judged for a caller in C: 0 where every row is shown, or 8 times 2 to the 32nd plus the
-- place of the first row not shown.
pub record JudgedForC (cores : ℕ) (rows : List Row) (before after : List ℕ) (code : ℕ) : Type 0 where
  pub answer : Answer
  pub right : LentJudgement cores rows before after answer
  pub all_shown : answer ≡ Shown → code ≡ 0
  pub not_shown_holds : (number place : ℕ) → answer ≡ NotShown number place
      → (number ≡ 8) × (code ≡ 8 * 4294967296 + place)

-- `dipperslate_analyse`: the number times 2 to the 32nd plus the place, and what the lent list is left with.
pub record AnswerForC (cores : ℕ) (rows : List Row) (before after : List ℕ) (code : ℕ) : Type 0 where
  pub judges : ListInRange cores rows → length rows ≤ length before → JudgedForC cores rows before after code
  pub faulty : (one : Paper) → FirstFailing (lent_order cores (length before) rows) one
      → (code ≡ one.number * 4294967296 + one.place) × (after ≡ before)
