-- Reads one after another, and what is answered by steps one after another.
use Rattle.std.proofs.Common.{◌≡◌, refl, sym, ◌∙◌, ap, subst, arith}
use Rattle.std.specs.Prelude.{Result, Ok, Err, IfErr}
use Rattle.std.specs.Result.{IsErrAnd}
use Rattle.flt_flash.specs.Blocks.{BlocksState}
use Rattle.flt_flash.specs.State.{HasRisenBy}
use Rattle.flt_flash.proofs.CallsInARow.{no_call, more_calls}
use Rattle.flt_config.specs.declared.config.Config.{Config}
use Rattle.flt_store_model.specs.Holding.{Fault, damaged, other, ◌>>=◌}
use Rattle.flt_restore.specs.declared.fault.StartFault.{StartFault}
use Rattle.flt_restore.specs.declared.fault.StartFault.TheVariants.{Flash, Damaged, OtherConfig, SequenceSpent}
use Rattle.flt_restore.specs.Found.{Reads}
use Rattle.flt_restore.specs.Judging.{told_as, as_told, HasFaultCause}

pub no_reads : (state : BlocksState) → Reads state state
no_reads state = record { values = λ block. refl; calls = no_call state; stays = λ is. is; image = λ is. refl; spent = refl }

pub more_reads : (first second third : BlocksState) → Reads first second → Reads second third → Reads first third
more_reads first second third one two = record {
  values = λ block. two.values block ∙ one.values block;
  calls = more_calls first second third one.calls two.calls;
  stays = λ is. two.stays (one.stays is);
  image = λ is. two.image (one.stays is) ∙ one.image is;
  spent = two.spent ∙ one.spent;
}

-- Reads leave one map of contents.
pub same_values : (before after : BlocksState) → Reads before after → after.value ≡ before.value
same_values before after reads = λ i block. reads.values block i

pub rises : (before middle after : BlocksState) → Reads before middle → HasRisenBy 3 middle.device.faults after.device.faults → HasRisenBy 3 before.device.faults after.device.faults
rises before middle after reads rose = omega (arith, reads.calls.counts, rose)

-- What holds of a fault holds of the answer that passes it on.
pub handed_on : {T : Type 0} (P : StartFault → Type 0) (result : Result T StartFault) (fault : StartFault) → IsErrAnd result (λ e. e ≡ fault) → P fault → IfErr result P
handed_on P (Ok value) fault is holds = absurd is
handed_on P (Err e) fault is holds = subst P (sym is) holds

-- The fault of a first step is that of the whole.
pub tells_first : {A B : Type 0} (c : Config) (before after : BlocksState) (judged : Result A Fault) (next : A → Result B Fault) (fault : StartFault)
    → HasFaultCause c before after judged fault → HasFaultCause c before after (judged >>= next) fault
tells_first {A} {B} c before after judged next Flash tells = tells
tells_first {A} {B} c before after judged next (Damaged place) tells = ap (λ (r : Result A Fault). r >>= next) tells
tells_first {A} {B} c before after judged next (OtherConfig found wanted) tells = (ap (λ (r : Result A Fault). r >>= next) tells.0, tells.1)
tells_first {A} {B} c before after judged next SequenceSpent tells = absurd tells

-- And that of the next one, where the first had none.
pub tells_next : {A B : Type 0} (c : Config) (before after : BlocksState) (judged : Result A Fault) (next : A → Result B Fault) (value : A) (fault : StartFault)
    → judged ≡ Ok value → HasFaultCause c before after (next value) fault → HasFaultCause c before after (judged >>= next) fault
tells_next {A} {B} c before after judged next value fault is tells = subst (λ (r : Result A Fault). HasFaultCause c before after (r >>= next) fault) (sym is) tells

-- A fault that is answered later is answered from the beginning.
pub tells_from : {A : Type 0} (c : Config) (before middle after : BlocksState) (judged : Result A Fault) (fault : StartFault)
    → Reads before middle → HasFaultCause c middle after judged fault → HasFaultCause c before after judged fault
tells_from c before middle after judged Flash reads tells = rises before middle after reads tells
tells_from c before middle after judged (Damaged place) reads tells = tells
tells_from c before middle after judged (OtherConfig found wanted) reads tells = tells
tells_from c before middle after judged SequenceSpent reads tells = absurd tells

-- What was judged without a read is answered as it is.
tells_judged : {A : Type 0} (c : Config) (before after : BlocksState) (judged : Result A Fault) (fault : StartFault) → Err fault ≡ as_told c judged → HasFaultCause c before after judged fault
tells_judged {A} c before after (Ok value) fault is = absurd (cc)
tells_judged {A} c before after (Err (damaged place)) fault is =
    let same : Damaged place ≡ fault = cc in
    let told : HasFaultCause {A = A} c before after (Err (damaged place)) (Damaged place) = refl in
    subst (λ (f : StartFault). HasFaultCause {A = A} c before after (Err (damaged place)) f) same told
tells_judged {A} c before after (Err (other mark)) fault is =
    let same : told_as c (other mark) ≡ fault = cc in
    let told : HasFaultCause {A = A} c before after (Err (other mark)) (told_as c (other mark)) = (refl, refl) in
    subst (λ (f : StartFault). HasFaultCause {A = A} c before after (Err (other mark)) f) same told

pub judged_ok : {A : Type 0} (c : Config) (judged : Result A Fault) (value : A) → Ok value ≡ as_told c judged → judged ≡ Ok value
judged_ok {A} c (Ok found) value is = cc
judged_ok {A} c (Err fault) value is = absurd (cc)

-- A step that judges what was read, in words of what is stored.
pub step_ok : {A I : Type 0} (c : Config) (judge : I → Result A Fault) (read stands : I) (answer : Result A StartFault) (value : A)
    → answer ≡ Ok value → answer ≡ as_told c (judge read) → read ≡ stands → judge stands ≡ Ok value
step_ok c judge read stands answer value was told same = judged_ok c (judge stands) value (sym was ∙ told ∙ ap (λ i. as_told c (judge i)) same)

pub step_told : {A I : Type 0} (c : Config) (before after : BlocksState) (judge : I → Result A Fault) (read stands : I) (answer : Result A StartFault) (fault : StartFault)
    → answer ≡ Err fault → answer ≡ as_told c (judge read) → read ≡ stands → HasFaultCause c before after (judge stands) fault
step_told c before after judge read stands answer fault was told same = tells_judged c before after (judge stands) fault (sym was ∙ told ∙ ap (λ i. as_told c (judge i)) same)

-- An answer that hands on a fault is the one that has it.
pub handed_as : {T : Type 0} (result answer : Result T StartFault) (fault : StartFault) → IsErrAnd result (λ e. e ≡ fault) → Err fault ≡ answer → result ≡ answer
handed_as (Ok value) answer fault is same = absurd is
handed_as {T} (Err e) answer fault is same = let the_err : StartFault → Result T StartFault = λ f. Err f in ap the_err is ∙ same

-- What holds of the fault of an answer holds of each fault that it is.
pub each_fault : {T : Type 0} (P : StartFault → Type 0) (result : Result T StartFault) → IfErr result P → (fault : StartFault) → result ≡ Err fault → P fault
each_fault P (Ok value) holds fault is = absurd (cc is)
each_fault P (Err told) holds fault is = let same : told ≡ fault = cc is in subst P same holds
