-- Worked examples of entries, frames and noted events.
use Rattle.std.specs.Prelude.{◌≡◌, ℕ, ◌+◌, ◌++◌, map, reverse, replicate, true, false, List, [], ◌∷◌, pos, Some}
use Rattle.flt_config.specs.declared.config.EventCfg.{EventCfg}
use Rattle.flt_config.specs.declared.config.Debounce.TheVariants as kinds
use Rattle.flt_config.specs.Durable.{initial_state}
use Rattle.flt_model.specs.Answer.{answers}
use Rattle.flt_model.specs.Start.{History, fresh}
use Rattle.flt_model.specs.Durable.{below}
use Rattle.flt_model.specs.declared.call.Op.TheVariants.{Signal, Tick, Cycle, Show}
use Rattle.flt_model.specs.declared.call.ReplyOf.TheVariants.{Taken, Ignored}
use Rattle.flt_model.specs.declared.call.Cause.TheVariants.{NotStarted}
use Rattle.flt_model.specs.Example.{event, recording, did, configured, restarted, ◌⇒◌, Replays, fail, pass, prefail, asks, responds, minus, shows}

-- A full memory keeps active entries and removes a passive one.
abbrev pub PassiveGivesWay : Type 0
PassiveGivesWay =
    Replays (fresh (configured 2 (record (event 1) { priority = 5 } ∷ record (event 2) { priority = 5 } ∷ record (event 3) { priority = 5 }
    ∷ record (event 4) { priority = 5 } ∷ [])))
    (Cycle 0 ⇒ Taken
    ∷ fail 0 ⇒ Taken
    ∷ fail 1 ⇒ Taken
    ∷ fail 2 ⇒ Taken
    ∷ Show 2 ⇒ shows 0x2F (pos 127) 1 0 0 true
    ∷ pass 0 ⇒ Taken
    ∷ fail 3 ⇒ Taken
    ∷ Show 0 ⇒ shows 0x26 (minus 128) 1 0 0 true
    ∷ Show 3 ⇒ shows 0x2F (pos 127) 1 0 1 true
    ∷ [])

-- An active entry of a greater priority number gives way, and one of a smaller number does not.
abbrev pub GreaterNumberGivesWay : Type 0
GreaterNumberGivesWay =
    Replays (fresh (configured 1 (record (event 0x000001) { priority = 5 } ∷ record (event 0x000002) { priority = 1 } ∷ [])))
    (Cycle 0 ⇒ Taken
    ∷ fail 0 ⇒ Taken
    ∷ fail 1 ⇒ Taken
    ∷ Show 0 ⇒ shows 0x27 (pos 127) 1 0 0 true
    ∷ Show 1 ⇒ shows 0x2F (pos 127) 1 0 1 true
    ∷ pass 0 ⇒ Taken
    ∷ fail 0 ⇒ Taken
    ∷ Show 0 ⇒ shows 0x2F (pos 127) 1 0 0 true
    ∷ asks 0 (0x14 ∷ 0x00 ∷ 0x00 ∷ 0x02 ∷ []) ⇒ responds (0x54 ∷ [])
    ∷ Show 0 ⇒ shows 0x2F (pos 127) 1 0 0 true
    ∷ asks 0 (0x14 ∷ 0xFF ∷ 0xFF ∷ 0xFF ∷ []) ⇒ responds (0x54 ∷ [])
    ∷ Show 1 ⇒ shows 0x50 (pos 0) 0 0 0 false
    ∷ [])

-- Of two passive entries of the same priority the older one gives way.
abbrev pub OldestGivesWay : Type 0
OldestGivesWay =
    Replays (fresh (configured 2 (event 0x000001 ∷ event 0x000002 ∷ event 0x000003 ∷ [])))
    (Cycle 0 ⇒ Taken
    ∷ fail 0 ⇒ Taken
    ∷ fail 1 ⇒ Taken
    ∷ pass 0 ⇒ Taken
    ∷ pass 1 ⇒ Taken
    ∷ fail 2 ⇒ Taken
    ∷ Show 0 ⇒ shows 0x26 (minus 128) 1 0 0 true
    ∷ Show 1 ⇒ shows 0x2E (minus 128) 1 0 1 true
    ∷ Show 2 ⇒ shows 0x2F (pos 127) 1 0 1 true
    ∷ [])

-- The first and the most recent events, and what a clear of one of them removes.
abbrev pub NotedEvents : Type 0
NotedEvents =
    Replays (fresh (configured 16 (event 0x000001 ∷ record (event 0x000002) { confirm = 2 } ∷ [])))
    (Cycle 0 ⇒ Taken
    ∷ fail 1 ⇒ Taken
    ∷ fail 0 ⇒ Taken
    ∷ asks 0 (0x19 ∷ 0x0B ∷ []) ⇒ responds (0x59 ∷ 0x0B ∷ 0xFF ∷ 0x00 ∷ 0x00 ∷ 0x02 ∷ 0x27 ∷ [])
    ∷ asks 0 (0x19 ∷ 0x0C ∷ []) ⇒ responds (0x59 ∷ 0x0C ∷ 0xFF ∷ 0x00 ∷ 0x00 ∷ 0x01 ∷ 0x2F ∷ [])
    ∷ asks 0 (0x19 ∷ 0x0D ∷ []) ⇒ responds (0x59 ∷ 0x0D ∷ 0xFF ∷ 0x00 ∷ 0x00 ∷ 0x01 ∷ 0x2F ∷ [])
    ∷ asks 0 (0x19 ∷ 0x0E ∷ []) ⇒ responds (0x59 ∷ 0x0E ∷ 0xFF ∷ 0x00 ∷ 0x00 ∷ 0x01 ∷ 0x2F ∷ [])
    ∷ Cycle 0 ⇒ Taken
    ∷ fail 1 ⇒ Taken
    ∷ asks 0 (0x19 ∷ 0x0D ∷ []) ⇒ responds (0x59 ∷ 0x0D ∷ 0xFF ∷ 0x00 ∷ 0x00 ∷ 0x01 ∷ 0x6D ∷ [])
    ∷ asks 0 (0x19 ∷ 0x0E ∷ []) ⇒ responds (0x59 ∷ 0x0E ∷ 0xFF ∷ 0x00 ∷ 0x00 ∷ 0x02 ∷ 0x2F ∷ [])
    ∷ asks 0 (0x14 ∷ 0x00 ∷ 0x00 ∷ 0x02 ∷ []) ⇒ responds (0x54 ∷ [])
    ∷ asks 0 (0x19 ∷ 0x0B ∷ []) ⇒ responds (0x59 ∷ 0x0B ∷ 0xFF ∷ [])
    ∷ asks 0 (0x19 ∷ 0x0C ∷ []) ⇒ responds (0x59 ∷ 0x0C ∷ 0xFF ∷ 0x00 ∷ 0x00 ∷ 0x01 ∷ 0x6D ∷ [])
    ∷ asks 0 (0x19 ∷ 0x0E ∷ []) ⇒ responds (0x59 ∷ 0x0E ∷ 0xFF ∷ [])
    ∷ fail 1 ⇒ Taken
    ∷ asks 0 (0x19 ∷ 0x0B ∷ []) ⇒ responds (0x59 ∷ 0x0B ∷ 0xFF ∷ 0x00 ∷ 0x00 ∷ 0x02 ∷ 0x27 ∷ [])
    ∷ [])

-- The most recent events stay when another event is cleared.
abbrev pub ClearOfAnotherEvent : Type 0
ClearOfAnotherEvent =
    Replays (fresh (configured 16 (event 0x000001 ∷ event 0x000002 ∷ [])))
    (Cycle 0 ⇒ Taken
    ∷ fail 0 ⇒ Taken
    ∷ fail 1 ⇒ Taken
    ∷ asks 0 (0x14 ∷ 0x00 ∷ 0x00 ∷ 0x01 ∷ []) ⇒ responds (0x54 ∷ [])
    ∷ asks 0 (0x19 ∷ 0x0B ∷ []) ⇒ responds (0x59 ∷ 0x0B ∷ 0xFF ∷ [])
    ∷ asks 0 (0x19 ∷ 0x0C ∷ []) ⇒ responds (0x59 ∷ 0x0C ∷ 0xFF ∷ [])
    ∷ asks 0 (0x19 ∷ 0x0D ∷ []) ⇒ responds (0x59 ∷ 0x0D ∷ 0xFF ∷ 0x00 ∷ 0x00 ∷ 0x02 ∷ 0x2F ∷ [])
    ∷ asks 0 (0x19 ∷ 0x0E ∷ []) ⇒ responds (0x59 ∷ 0x0E ∷ 0xFF ∷ 0x00 ∷ 0x00 ∷ 0x02 ∷ 0x2F ∷ [])
    ∷ [])

-- Two timers that are due at the same tick, with room for one entry: the event of the smaller number gets it.
abbrev pub TimersComeDueInOrder : Type 0
TimersComeDueInOrder =
    Replays (fresh (configured 1 (map (λ dtc. record (event dtc) { debounce = kinds.Time 10 5 }) (1 ∷ 2 ∷ []))))
    (Cycle 0 ⇒ Taken
    ∷ prefail 1 ⇒ Taken
    ∷ prefail 0 ⇒ Taken
    ∷ Tick 10 ⇒ Taken
    ∷ Show 0 ⇒ shows 0x2F (pos 127) 1 0 1 true
    ∷ Show 1 ⇒ shows 0x2F (pos 127) 1 0 0 true
    ∷ [])

-- The frames and extended data of an entry.
abbrev pub Snapshots : Type 0
Snapshots =
    Replays (fresh (configured 16 (recording 0x123456 (did 0x0101 2 ∷ did 0x0103 1 ∷ []) ∷ event 0x123457 ∷ [])))
    (Signal 0 258 ⇒ Taken
    ∷ Signal 2 7 ⇒ Taken
    ∷ Cycle 0 ⇒ Taken
    ∷ fail 0 ⇒ Taken
    ∷ asks 0 (0x19 ∷ 0x04 ∷ 0x12 ∷ 0x34 ∷ 0x56 ∷ 0x02 ∷ [])
    ⇒ responds (0x59 ∷ 0x04 ∷ 0x12 ∷ 0x34 ∷ 0x56 ∷ 0x2F
    ∷ 0x02 ∷ 0x02 ∷ 0x01 ∷ 0x01 ∷ 0x01 ∷ 0x02 ∷ 0x01 ∷ 0x03 ∷ 0x07 ∷ [])
    ∷ Signal 0 3 ⇒ Taken
    ∷ fail 0 ⇒ Taken
    ∷ asks 0 (0x19 ∷ 0x04 ∷ 0x12 ∷ 0x34 ∷ 0x56 ∷ 0x02 ∷ [])
    ⇒ responds (0x59 ∷ 0x04 ∷ 0x12 ∷ 0x34 ∷ 0x56 ∷ 0x2F
    ∷ 0x02 ∷ 0x02 ∷ 0x01 ∷ 0x01 ∷ 0x01 ∷ 0x02 ∷ 0x01 ∷ 0x03 ∷ 0x07 ∷ [])
    ∷ pass 0 ⇒ Taken
    ∷ fail 0 ⇒ Taken
    ∷ asks 0 (0x19 ∷ 0x04 ∷ 0x12 ∷ 0x34 ∷ 0x56 ∷ 0xFF ∷ [])
    ⇒ responds (0x59 ∷ 0x04 ∷ 0x12 ∷ 0x34 ∷ 0x56 ∷ 0x2F
    ∷ 0x01 ∷ 0x02 ∷ 0x01 ∷ 0x01 ∷ 0x01 ∷ 0x02 ∷ 0x01 ∷ 0x03 ∷ 0x07
    ∷ 0x02 ∷ 0x02 ∷ 0x01 ∷ 0x01 ∷ 0x00 ∷ 0x03 ∷ 0x01 ∷ 0x03 ∷ 0x07 ∷ [])
    ∷ asks 0 (0x19 ∷ 0x04 ∷ 0x12 ∷ 0x34 ∷ 0x56 ∷ 0x03 ∷ []) ⇒ responds (0x7F ∷ 0x19 ∷ 0x31 ∷ [])
    ∷ asks 0 (0x19 ∷ 0x04 ∷ 0x12 ∷ 0x34 ∷ 0x57 ∷ 0x01 ∷ []) ⇒ responds (0x59 ∷ 0x04 ∷ 0x12 ∷ 0x34 ∷ 0x57 ∷ 0x50 ∷ [])
    ∷ asks 0 (0x19 ∷ 0x06 ∷ 0x12 ∷ 0x34 ∷ 0x56 ∷ 0xFF ∷ []) ⇒ responds (0x59 ∷ 0x06 ∷ 0x12 ∷ 0x34 ∷ 0x56 ∷ 0x2F ∷ 0x01 ∷ 0x02 ∷ 0x02 ∷ 0x00 ∷ [])
    ∷ [])

-- The values of the data identifiers in a frame.
abbrev pub FrameOfIdentifiers : Type 0
FrameOfIdentifiers =
    Replays (fresh (configured 16 (recording 0x123456
    (did 0x0102 2 ∷ did 0x0103 1 ∷ did 0x0104 4 ∷ did 0x0105 1 ∷ did 0x0106 2 ∷ did 0x0107 8 ∷ []) ∷ [])))
    (Signal 0 1 ⇒ Taken
    ∷ Signal 1 2 ⇒ Taken
    ∷ Signal 2 300 ⇒ Taken
    ∷ Signal 3 4 ⇒ Taken
    ∷ Signal 4 5 ⇒ Taken
    ∷ Signal 5 65535 ⇒ Taken
    ∷ Signal 6 1 ⇒ Taken
    ∷ Cycle 0 ⇒ Taken
    ∷ fail 0 ⇒ Taken
    ∷ asks 0 (0x19 ∷ 0x04 ∷ 0x12 ∷ 0x34 ∷ 0x56 ∷ 0x01 ∷ [])
    ⇒ responds (0x59 ∷ 0x04 ∷ 0x12 ∷ 0x34 ∷ 0x56 ∷ 0x2F ∷ 0x01 ∷ 0x06
    ∷ 0x01 ∷ 0x02 ∷ 0x00 ∷ 0x02
    ∷ 0x01 ∷ 0x03 ∷ 0xFF
    ∷ 0x01 ∷ 0x04 ∷ 0x00 ∷ 0x04 ∷ 0x00 ∷ 0x05
    ∷ 0x01 ∷ 0x05 ∷ 0x7F
    ∷ 0x01 ∷ 0x06 ∷ 0xFF ∷ 0xFF
    ∷ 0x01 ∷ 0x07 ∷ 0x00 ∷ 0x01 ∷ 0x00 ∷ 0x02 ∷ 0x01 ∷ 0x2C ∷ 0x00 ∷ 0x04 ∷ [])
    ∷ [])

-- The entries, the noted events and the overflow flag are kept in the next life.
abbrev pub SavedMemoryGoesOn : Type 0
SavedMemoryGoesOn =
    Replays (restarted (fresh (configured 2 (recording 0x000001 (did 0x0101 2 ∷ [])
    ∷ event 0x000002 ∷ record (event 0x000003) { confirm = 2 } ∷ record (event 0x000004) { confirm = 2 } ∷ [])))
    (fail 3 ∷ fail 1 ∷ fail 0 ∷ pass 0 ∷ Signal 0 3 ∷ fail 0 ∷ fail 2 ∷ Cycle 0 ∷ Signal 0 258 ∷ []))
    (asks 0 (0x19 ∷ 0x04 ∷ 0x00 ∷ 0x00 ∷ 0x01 ∷ 0xFF ∷ [])
    ⇒ responds (0x59 ∷ 0x04 ∷ 0x00 ∷ 0x00 ∷ 0x01 ∷ 0x2F
    ∷ 0x01 ∷ 0x01 ∷ 0x01 ∷ 0x01 ∷ 0x01 ∷ 0x02
    ∷ 0x02 ∷ 0x01 ∷ 0x01 ∷ 0x01 ∷ 0x00 ∷ 0x03 ∷ [])
    ∷ asks 0 (0x19 ∷ 0x06 ∷ 0x00 ∷ 0x00 ∷ 0x01 ∷ 0x01 ∷ []) ⇒ responds (0x59 ∷ 0x06 ∷ 0x00 ∷ 0x00 ∷ 0x01 ∷ 0x2F ∷ 0x01 ∷ 0x02 ∷ [])
    ∷ asks 0 (0x19 ∷ 0x0B ∷ []) ⇒ responds (0x59 ∷ 0x0B ∷ 0xFF ∷ 0x00 ∷ 0x00 ∷ 0x03 ∷ 0x27 ∷ [])
    ∷ asks 0 (0x19 ∷ 0x0C ∷ []) ⇒ responds (0x59 ∷ 0x0C ∷ 0xFF ∷ 0x00 ∷ 0x00 ∷ 0x01 ∷ 0x2F ∷ [])
    ∷ asks 0 (0x19 ∷ 0x0D ∷ []) ⇒ responds (0x59 ∷ 0x0D ∷ 0xFF ∷ 0x00 ∷ 0x00 ∷ 0x04 ∷ 0x27 ∷ [])
    ∷ asks 0 (0x19 ∷ 0x0E ∷ []) ⇒ responds (0x59 ∷ 0x0E ∷ 0xFF ∷ 0x00 ∷ 0x00 ∷ 0x02 ∷ 0x2F ∷ [])
    ∷ Show 1 ⇒ shows 0x2F (pos 0) 1 0 0 true
    ∷ [])

-- Events with the DTCs 0x010000, 0x010001 and so on, of the same priority.
abbrev pub number_events : ℕ → List EventCfg
number_events n = map (λ e. record (event (0x010000 + e)) { priority = 5 }) (below n)

-- A full memory of sixteen entries, and forty events.
abbrev pub Drive : Type 0
Drive =
    answers (fresh (configured 16 (number_events 40))) []
    (Cycle 0 ∷ (map (λ e. fail e) (below 18) ++ asks 0 (0x19 ∷ 0x01 ∷ 0x08 ∷ []) ∷ pass 0 ∷ pass 1 ∷ pass 2 ∷ pass 3 ∷ fail 18 ∷ fail 19
    ∷ asks 1 (0x19 ∷ 0x01 ∷ 0x08 ∷ []) ∷ []))
    ≡ replicate 19 Taken ++ responds (0x59 ∷ 0x01 ∷ 0xFF ∷ 0x01 ∷ 0x00 ∷ 0x12 ∷ [])
    ∷ Taken ∷ Taken ∷ Taken ∷ Taken ∷ Taken ∷ Taken ∷ responds (0x59 ∷ 0x01 ∷ 0xFF ∷ 0x01 ∷ 0x00 ∷ 0x12 ∷ []) ∷ []

-- The calls of the first life of the drive, newest first.
abbrev pub first_life : History
first_life = fail 19 ∷ fail 18 ∷ pass 3 ∷ pass 2 ∷ pass 1 ∷ pass 0 ∷ (reverse (map (λ e. fail e) (below 18)) ++ Cycle 0 ∷ [])

-- Its second and third lives: the confirmed events stay, and a clear of all removes them.
abbrev pub DriveGoesOn : Type 0
DriveGoesOn =
    answers (restarted (fresh (configured 16 (number_events 40))) first_life) []
    (fail 30
    ∷ Cycle 0
    ∷ (map (λ e. pass (4 + e)) (below 14)
    ++ asks 1 (0x19 ∷ 0x01 ∷ 0x08 ∷ [])
    ∷ asks 0 (0x14 ∷ 0xFF ∷ 0xFF ∷ 0xFF ∷ [])
    ∷ asks 1 (0x19 ∷ 0x01 ∷ 0x08 ∷ [])
    ∷ []))
    ≡ Ignored NotStarted
    ∷ replicate 15 Taken
    ++ responds (0x59 ∷ 0x01 ∷ 0xFF ∷ 0x01 ∷ 0x00 ∷ 0x12 ∷ [])
    ∷ responds (0x54 ∷ [])
    ∷ responds (0x59 ∷ 0x01 ∷ 0xFF ∷ 0x01 ∷ 0x00 ∷ 0x00 ∷ [])
    ∷ []

-- A passive entry of a smaller priority number stays, and the number comes before passiveness.
abbrev pub NumberComesFirst : Type 0
NumberComesFirst =
    Replays (fresh (configured 2 (record (event 0x000001) { priority = 5 } ∷ event 0x000002 ∷ record (event 0x000003) { priority = 3 }
    ∷ record (event 0x000004) { priority = 4 } ∷ [])))
    (Cycle 0 ⇒ Taken
    ∷ fail 0 ⇒ Taken
    ∷ fail 1 ⇒ Taken
    ∷ pass 1 ⇒ Taken
    ∷ fail 2 ⇒ Taken
    ∷ Show 0 ⇒ shows 0x27 (pos 127) 1 0 0 true
    ∷ Show 1 ⇒ shows 0x2E (minus 128) 1 0 1 true
    ∷ pass 2 ⇒ Taken
    ∷ fail 3 ⇒ Taken
    ∷ Show 2 ⇒ shows 0x2E (minus 128) 1 0 1 true
    ∷ Show 3 ⇒ shows 0x2F (pos 127) 1 0 0 true
    ∷ [])

-- An entry that is updated keeps its position: it is still the oldest. The snapshot records of unconfirmed DTCs are listed too.
abbrev pub UpdateKeepsThePlace : Type 0
UpdateKeepsThePlace =
    Replays (fresh (configured 2 (event 0x000001 ∷ event 0x000002 ∷ record (event 0x000003) { confirm = 2 } ∷ [])))
    (Cycle 0 ⇒ Taken
    ∷ fail 0 ⇒ Taken
    ∷ fail 1 ⇒ Taken
    ∷ pass 0 ⇒ Taken
    ∷ fail 0 ⇒ Taken
    ∷ pass 0 ⇒ Taken
    ∷ pass 1 ⇒ Taken
    ∷ fail 2 ⇒ Taken
    ∷ Show 0 ⇒ shows 0x26 (minus 128) 1 0 0 true
    ∷ Show 1 ⇒ shows 0x2E (minus 128) 1 0 1 true
    ∷ asks 0 (0x19 ∷ 0x03 ∷ []) ⇒ responds (0x59 ∷ 0x03 ∷ 0x00 ∷ 0x00 ∷ 0x02 ∷ 0x01 ∷ 0x00 ∷ 0x00 ∷ 0x02 ∷ 0x02
    ∷ 0x00 ∷ 0x00 ∷ 0x03 ∷ 0x01 ∷ 0x00 ∷ 0x00 ∷ 0x03 ∷ 0x02 ∷ [])
    ∷ [])

-- A further failure of a confirmed event is no confirmation; each active signal is its own bit of data identifier 0105; a DTC is
-- compared in all its bytes.
abbrev pub ConfirmedOnce : Type 0
ConfirmedOnce =
    Replays (fresh (configured 16 (recording 0x000001 (did 0x0105 1 ∷ []) ∷ event 0x010001 ∷ [])))
    (Cycle 0 ⇒ Taken
    ∷ Signal 1 1 ⇒ Taken
    ∷ fail 0 ⇒ Taken
    ∷ fail 1 ⇒ Taken
    ∷ pass 0 ⇒ Taken
    ∷ Signal 1 0 ⇒ Taken
    ∷ Signal 7 1 ⇒ Taken
    ∷ fail 0 ⇒ Taken
    ∷ asks 0 (0x19 ∷ 0x0D ∷ []) ⇒ responds (0x59 ∷ 0x0D ∷ 0xFF ∷ 0x00 ∷ 0x00 ∷ 0x01 ∷ 0x2F ∷ [])
    ∷ asks 0 (0x19 ∷ 0x0E ∷ []) ⇒ responds (0x59 ∷ 0x0E ∷ 0xFF ∷ 0x01 ∷ 0x00 ∷ 0x01 ∷ 0x2F ∷ [])
    ∷ asks 0 (0x19 ∷ 0x04 ∷ 0x00 ∷ 0x00 ∷ 0x01 ∷ 0xFF ∷ []) ⇒ responds (0x59 ∷ 0x04 ∷ 0x00 ∷ 0x00 ∷ 0x01 ∷ 0x2F
    ∷ 0x01 ∷ 0x01 ∷ 0x01 ∷ 0x05 ∷ 0x02 ∷ 0x02 ∷ 0x01 ∷ 0x01 ∷ 0x05 ∷ 0x80 ∷ [])
    ∷ asks 0 (0x19 ∷ 0x06 ∷ 0x01 ∷ 0x00 ∷ 0x01 ∷ 0x01 ∷ []) ⇒ responds (0x59 ∷ 0x06 ∷ 0x01 ∷ 0x00 ∷ 0x01 ∷ 0x2F ∷ 0x01 ∷ 0x01 ∷ [])
    ∷ [])

-- A DTC that was saved as noted is reported with its current status, whatever that says.
abbrev pub NotedAsSaved : Type 0
NotedAsSaved =
    Replays (record {
      config = configured 16 (event 0x000001 ∷ []);
      base = record (initial_state (configured 16 (event 0x000001 ∷ []))) { first_failed = Some 0 };
    })
    (asks 0 (0x19 ∷ 0x0B ∷ []) ⇒ responds (0x59 ∷ 0x0B ∷ 0xFF ∷ 0x00 ∷ 0x00 ∷ 0x01 ∷ 0x50 ∷ [])
    ∷ asks 0 (0x19 ∷ 0x0D ∷ []) ⇒ responds (0x59 ∷ 0x0D ∷ 0xFF ∷ [])
    ∷ [])

-- The number of selected DTCs has two bytes, the high one first.
abbrev pub CountOfManyDtcs : Type 0
CountOfManyDtcs =
    Replays (fresh (configured 16 (number_events 256)))
    (asks 0 (0x19 ∷ 0x01 ∷ 0x10 ∷ []) ⇒ responds (0x59 ∷ 0x01 ∷ 0xFF ∷ 0x01 ∷ 0x01 ∷ 0x00 ∷ [])
    ∷ [])
