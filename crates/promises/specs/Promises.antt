-- The three demands. Each is proved in proofs/Promises.antt, of the definitions that the contracts cite.
-- The sentences stand on the pages beside this one, each with its numbers; the records below say which belong
-- to which demand. Page Words has the words that they share. Three fields are words of other crates, kept
-- beside what the pages say: ReadToMeans (what the reader's own reading stands for), BoundsHold,
-- ReplayInTime.
use Rattle.std.specs.Prelude.{ℕ, List}
use Rattle.quantities.specs.declared.Row.{Row}
use Rattle.windows.specs.Answer.{Judged, judged}
use Rattle.sheet.specs.Faults.{ReadToMeans}
use Rattle.sheet.specs.Reader.{read_of}
use Rattle.sheet.specs.declared.Outcome.{Outcome}
use Rattle.text.specs.Text.{text_of}
use Rattle.bench.specs.Step.{tick}
use Rattle.running.specs.Running.{BoundsHold}
use Rattle.running.specs.Replayed.{ReplayInTime}
use Rattle.rowpages.specs.Quantities.{KeptApart}
use Rattle.sheetpages.specs.Sheets.{SheetEither, SheetTaken, TakenSheetIsWhole, SheetTurnedAway}
use Rattle.sheetpages.specs.Sheets.{RefusedSheetHasFault}
use Rattle.sheetpages.specs.Sheets.{WholeLength, NoByteAtTheEnd, SheetsRead, OneReading}
use Rattle.sheetpages.specs.SheetRecords.{RecordsComeBack, PartsTold, PrioritiesTo999, RowRecordsTo32, ThirtyTwoTaken}
use Rattle.rowpages.specs.Lists.{FaultyListTurnedAway, RefusedListHasFault, TakenExactly}
use Rattle.rowpages.specs.Lists.{CoresTo16, RowsTo32, GapsTo1000000}
use Rattle.rowpages.specs.Tables.{NamedLimits, TableMade, TableChecked}
use Rattle.rowpages.specs.Lent.{Lending, lent, LentAnswered, LentTurnedAway, RefusedLentHasFault}
use Rattle.rowpages.specs.Lent.{OfLengths, LentJudged, OneLent, ByValue, ToldFor}
use Rattle.rowpages.specs.Lent.{TripleIsRow, TriplesInOrder, CallersInC}
use Rattle.benchpages.specs.Calls.{BrokenExactly, Gives29, CallTurnedAway, CallTaken, RefusedCallHasFault}
use Rattle.benchpages.specs.Calls.{GapPermitted, FirstReleasePermitted, OpeningRefused, OpeningTaken}
use Rattle.benchpages.specs.Calls.{RefusedChangesNothing, OpenedHolds, RefusalNumbers}
use Rattle.benchpages.specs.Calls.{ClockTo1000000000, EndedListed, CallsAnswered}
use Rattle.benchpages.specs.CallBytes.{RequestsRead, RequestsDone, PollComesBack, PollsFit, AnswerComesBack}
use Rattle.benchpages.specs.CallBytes.{ReplayAnswered, ReplayNoRoom, ReplayNotOpened}
use Rattle.benchpages.specs.Moves.{ReleaseStarts, NoOtherRelease, TickServes, NoOtherTick}
use Rattle.rowpages.specs.Windows.{JudgedRight, OneJudgement, LargestTotal, FloorForm, BoundsSolve, FormulasAnswered}
use Rattle.rowpages.specs.Patterns.{PlainIsLargest, CarryIsLargest, NoMoreThanCarry}
use Rattle.promises.specs.Tool.{GoesTheWholeWay, OneText, InDecimal, WordsInBytes, TextInFront, First1024}
use Rattle.promises.specs.Tool.{OutputOfDocument}
use Rattle.benchpages.specs.Polls.{ClockCounts, PollsEnd, PollsEndInTicks, PollsEndOrWait}
use Rattle.benchpages.specs.LentPolls.{LentCallsAnswer, LentRunsOn, LentRunHears, LentRunsHistory}
use Rattle.benchpages.specs.LentPolls.{LentBoundsHold, LentPollsEnd}
use Rattle.benchpages.specs.Histories.{HistoryRuns, Books}
use Rattle.benchpages.specs.Below.{AnswerFromAbove, RunFromAbove}

-- Every sheet is answered: taken where it is whole, else turned away by its first fault (page Sheets), and
-- the bytes of a record are its numbers (page SheetRecords).
pub record SheetsAnswered : Type 0 where
  pub either : SheetEither
  pub taken : SheetTaken
  pub taken_is_whole : TakenSheetIsWhole
  pub turned_away : SheetTurnedAway
  pub refused : RefusedSheetHasFault
  pub no_byte : NoByteAtTheEnd
  pub lengths : WholeLength
  pub readings : ReadToMeans
  pub records : RecordsComeBack
  pub parts : PartsTold
  pub priorities : PrioritiesTo999
  pub thirty_third_row : RowRecordsTo32
  pub thirty_two_rows : ThirtyTwoTaken

-- Every row list is answered (page Lists), and every table (page Tables).
pub record ListsAnswered : Type 0 where
  pub turned_away : FaultyListTurnedAway
  pub refused : RefusedListHasFault
  pub taken : TakenExactly
  pub cores : CoresTo16
  pub rows : RowsTo32
  pub gaps : GapsTo1000000
  pub limits : NamedLimits
  pub tables : TableMade
  pub checked : TableChecked

-- The same on the caller's own list with a list that is lent, by value, and for a caller in C (page Lent).
pub record LentListsAnswered : Type 0 where
  pub of_lengths : OfLengths
  pub answered : LentAnswered lent
  pub turned_away : LentTurnedAway lent
  pub refused : RefusedLentHasFault lent
  pub by_value : ByValue
  pub told : ToldFor
  pub triple : TripleIsRow
  pub triples : TriplesInOrder
  pub in_c : CallersInC

-- Every opening and every call on a bench is answered (page Calls), and one that is taken does what the rules
-- say (page Moves).
pub record BenchesAnswered : Type 0 where
  pub openings_refused : OpeningRefused
  pub openings : OpeningTaken
  pub opened : OpenedHolds
  pub broken : BrokenExactly
  pub gives_29 : Gives29
  pub turned_away : CallTurnedAway
  pub taken : CallTaken
  pub refused : RefusedCallHasFault
  pub unchanged : RefusedChangesNothing
  pub numbers : RefusalNumbers
  pub gap : GapPermitted
  pub first_release : FirstReleasePermitted
  pub clock : ClockTo1000000000
  pub releases : ReleaseStarts
  pub no_other_release : NoOtherRelease
  pub ticks : TickServes tick
  pub no_other_tick : NoOtherTick
  pub listed : EndedListed
  pub functions : CallsAnswered

-- Calls and answers that go through bytes come back, and so does a whole replay (page CallBytes).
pub record ReplaysAnswered : Type 0 where
  pub requests : RequestsRead
  pub done : RequestsDone
  pub polls : PollComesBack
  pub polls_fit : PollsFit
  pub answers : AnswerComesBack
  pub answered : ReplayAnswered
  pub no_room : ReplayNoRoom
  pub not_opened : ReplayNotOpened

-- Demand 1. Every sheet, row list and bench call is answered; a faulty one is turned away by number and
-- place, in the fixed order of checks, and every list or bench then holds exactly what the rules say.
-- Instants, lengths and microseconds are kept apart in all of them (page Quantities).
pub record Demand1 : Type 0 where
  pub kinds : KeptApart
  pub sheets : SheetsAnswered
  pub lists : ListsAnswered
  pub lent_lists : LentListsAnswered
  pub benches : BenchesAnswered
  pub replays : ReplaysAnswered

-- A reader of sheets, a judge of row lists, and a tool that prints a text for a sheet. (`Lending`, page Lent,
-- is an analysis that is lent a list.)
abbrev pub Reader : Type 0
Reader = List ℕ → Outcome

abbrev pub Judge : Type 0
Judge = (cores : ℕ) → List Row → Judged

abbrev pub Tool : Type 0
Tool = List ℕ → List ℕ

-- Demand 2, of any of these. A sheet without fault is taken, and its rows stand in rising priority number,
-- each once, with their times in ticks (page Sheets). The bound of a row is the least window from C to D that
-- passes for every permitted choice of carry-in rows; the first row with none is named, it and those below
-- get no bound (page Windows); so too on lent lists (page Lent). And the whole way: the text for a sheet is
-- that of the judgement of the rows as they were read (page Tool).
pub record Demand2For (read : Reader) (judge : Judge) (lend : Lending) (tool : Tool) : Type 0 where
  pub sheets : SheetsRead read
  pub lists : JudgedRight judge
  pub lent_answered : LentAnswered lend
  pub lent_lists : LentJudged lend
  pub whole_way : GoesTheWholeWay tool

-- It holds of ours; specs/Fakes.antt has some that it does not hold of. It leaves one reading, one judgement,
-- on lent lists too, and one text. The window formulas are no larger than they have to be: in a window that
-- holds a poll of the row, each is the largest work of the row over all patterns of releases (page Patterns).
pub record Demand2 : Type 0 where
  pub ours : Demand2For read_of judged lent text_of
  pub one_reading : OneReading
  pub one_judgement : OneJudgement
  pub one_lent : OneLent
  pub one_text : OneText
  pub largest_total : LargestTotal
  pub floor_form : FloorForm
  pub least_solution : BoundsSolve
  pub formulas : FormulasAnswered
  pub largest_plain : PlainIsLargest
  pub largest_carry : CarryIsLargest
  pub carry_in_short_windows : NoMoreThanCarry
  pub digits : InDecimal
  pub words : WordsInBytes
  pub printed : TextInFront
  pub document : OutputOfDocument
  pub first_bytes : First1024

-- Demand 3. The bound holds on a running board: from an empty bench, over any sequence of calls, refused ones
-- included. Each poll ends within it (page Polls), also where the caller lends the bench (page LentPolls).
-- Rows below make no difference. And no answer that the replay writes, for any bytes as calls, breaks a
-- bound.
pub record Demand3 : Type 0 where
  pub holds : BoundsHold
  pub polls_end : PollsEnd
  pub in_ticks : PollsEndInTicks
  pub or_wait : PollsEndOrWait
  pub clock : ClockCounts
  pub lent_runs : LentRunsOn
  pub lent_hears : LentRunHears
  pub lent_histories : LentRunsHistory
  pub lent_holds : LentBoundsHold
  pub lent_polls_end : LentPollsEnd
  pub lent_calls : LentCallsAnswer
  pub histories : HistoryRuns
  pub books : Books
  pub answer_from_above : AnswerFromAbove
  pub run_from_above : RunFromAbove
  pub in_code : ReplayInTime
