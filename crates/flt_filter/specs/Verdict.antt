-- What is reported about an input: by what came of it, and by what a definition makes of its bytes.
use Rattle.std.specs.Prelude.{◌≡◌, ◌⊎◌, ℕ, ◌≤◌, ◌<◌, List, [], ◌∷◌, ◌++◌, Option, Some, None, IfSome, codes, length}
use Rattle.std.specs.Io.KnownBytes.{Appends, Consumes, IsAtEnd, Keeps}
use Rattle.flt_io.specs.Fault.{Rose}
use Rattle.flt_io.specs.Sink.{AppendsFront}
use Rattle.flt_io.specs.declared.stream.StreamFault.{StreamFault}
use Rattle.flt_io.specs.declared.stream.StreamFault.TheVariants as reads
use Rattle.flt_filter.specs.declared.reading.InputFault.{InputFault}
use Rattle.flt_filter.specs.declared.reading.InputFault.TheVariants.{Memory, Failed, TooMany}
use Rattle.flt_filter.specs.declared.verdict.Verdict.{Verdict}

-- What is to be reported: a status and its text.
pub record Due : Type 0 where
  pub status : ℕ
  pub text : List ℕ

-- One line.
abbrev pub line_due : ℕ → List ℕ → Due
line_due status words = record { status = status; text = words ++ 10 ∷ [] }

-- A verdict without where it lies in memory.
abbrev pub due_of : Verdict → Due
due_of verdict = record { status = verdict.status; text = verdict.text.items }

-- What came of an input: the source failed, or more bytes came than are taken, or all of these.
pub data Came : Type 0 where
  failed : Came
  too_many : Came
  whole : List ℕ → Came

-- What is read, before it and after it: the bytes that the source had left, and its count of faults.
pub record Inside : Type 0 where
  pub left : Option (List ℕ)
  pub left_after : Option (List ℕ)
  pub faults : ℕ
  pub faults_after : ℕ

-- What is written to, before it and after it: the bytes that the sink held, and its count of faults.
pub record Outside : Type 0 where
  pub held : Option (List ℕ)
  pub held_after : Option (List ℕ)
  pub faults : ℕ
  pub faults_after : ℕ

-- What is read from a source, before it and after it.
abbrev pub reading_of : {S : Type 0} → (S → Option (List ℕ)) → (S → ℕ) → S → S → Inside
reading_of left faults source after = record { left = left source; left_after = left after; faults = faults source; faults_after = faults after }

-- What is written to a sink, before it and after it.
abbrev pub writing_of : {K : Type 0} → (K → Option (List ℕ)) → (K → ℕ) → K → K → Outside
writing_of held faults sink after = record { held = held sink; held_after = held after; faults = faults sink; faults_after = faults after }

-- The most bytes of an input.
abbrev pub most_bytes : ℕ
most_bytes = 16777216

-- This came of the input. The source was read to its end, or past the most bytes.
abbrev pub HasCome : Inside → Came → Type 0
HasCome inside failed = Rose inside.faults inside.faults_after
HasCome inside too_many = (front : List ℕ) × (most_bytes < length front) × Consumes inside.left inside.left_after front
HasCome inside (whole bytes) = (length bytes ≤ most_bytes) × Consumes inside.left inside.left_after bytes × IsAtEnd inside.left_after

-- What is due where the source failed.
abbrev pub unread_due : Due
unread_due = line_due 3 (codes "read fault")

-- What is due where more bytes came than are taken.
abbrev pub large_due : Due
large_due = line_due 9 (codes "input large")

-- What is due, by what came and by what the bytes are judged as.
abbrev pub IsDue : (List ℕ → Due → Type 0) → Came → Due → Type 0
IsDue IsJudged failed due = due ≡ unread_due
IsDue IsJudged too_many due = due ≡ large_due
IsDue IsJudged (whole bytes) due = IsJudged bytes due

-- The text was written and the status is the one due, or the sink failed after a front of it and the status is 4.
abbrev pub IsTold : Outside → Due → ℕ → Type 0
IsTold outside due status =
    ((status ≡ due.status) × Appends outside.held outside.held_after due.text)
    ⊎ ((status ≡ 4) × Rose outside.faults outside.faults_after × AppendsFront outside.held outside.held_after due.text)

-- Something came, and its due was reported.
pub record IsInputAnswered (IsJudged : List ℕ → Due → Type 0) (inside : Inside) (outside : Outside) (status : ℕ) : Type 0 where
  pub came : Came
  pub due : Due
  pub cause : HasCome inside came
  pub judged : IsDue IsJudged came due
  pub told : IsTold outside due status

-- Memory ran out, and nothing was reported.
pub record WantsMemory (outside : Outside) (status : ℕ) : Type 0 where
  pub told : status ≡ 7
  pub kept : Keeps outside.held outside.held_after

-- How a reader ends that judges a whole input: in one of these two ways.
abbrev pub Tells : (List ℕ → Due → Type 0) → Inside → Outside → ℕ → Type 0
Tells IsJudged inside outside status = WantsMemory outside status ⊎ IsInputAnswered IsJudged inside outside status

-- Why an input was not read to its end, where its bytes were not.
abbrev pub input_fault : StreamFault → InputFault
input_fault reads.Memory = Memory
input_fault reads.Failed = Failed

-- What is due of an input that could not be judged, by why; nothing where memory ran out.
abbrev pub IsFaultDue : InputFault → Due → Type 0
IsFaultDue Memory due = ⊥
IsFaultDue Failed due = due ≡ unread_due
IsFaultDue TooMany due = due ≡ large_due

-- What was made of an input is due of it; or memory ran out.
abbrev pub IsVerdictMade : (List ℕ → Due → Type 0) → Inside → Option Due → Type 0
IsVerdictMade IsJudged inside made = IfSome made (λ due. (came : Came) × HasCome inside came × IsDue IsJudged came due)

-- What was made is reported, or that memory ran out.
abbrev pub IsToldOf : Outside → Option Due → ℕ → Type 0
IsToldOf outside None status = WantsMemory outside status
IsToldOf outside (Some due) status = WantsMemory outside status ⊎ IsTold outside due status
