-- The polls that ended in a tick as the code lists them: how many, and an array that is blank beyond them.
use Rattle.std.specs.Prelude.{◌+◌, ◌-◌, Bool, true, false, List, ◌++◌, length, replicate, set}
use Rattle.quantities.specs.Limits.{row_capacity}
use Rattle.bench.specs.declared.Finish.{Finish}
use Rattle.bench.specs.declared.Finishes.{Finishes}

-- a blank entry
abbrev pub no_finish : Finish
no_finish = record { place = 0; response = record { 0 = 0 } }

-- the code's list of these polls
unfoldable pub finishes_of : List Finish → Finishes
finishes_of polls =
    record { count = length polls; list = polls ++ replicate (row_capacity - length polls) no_finish }

-- the code's list with one poll more, if it ended
unfoldable pub noted : Finishes → Bool → Finish → Finishes
noted f false poll = f
noted f true poll = record { count = f.count + 1; list = set f.list f.count poll }
