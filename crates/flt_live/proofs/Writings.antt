-- Texts that are written one after the other, and where no byte was written.
use Rattle.std.proofs.Common.{◌≡◌, ◌++◌, ℕ, List, [], Option, Some, None, Result, Err, sym, ap, subst, arith, ◌∙◌}
use Rattle.std.proofs.lemmas.List.{append-nil, append_assoc}
use Rattle.std.proofs.Math.Seq.{take-append-add}
use Rattle.std.specs.Prelude.{OnErr, ◌+◌, length, take}
use Rattle.std.specs.Io.KnownBytes.{Appends}
use Rattle.flt_io.specs.Sink.{AppendsFront}
use Rattle.flt_io.specs.Written.{Writes}
use Rattle.flt_io.specs.declared.stream.StreamFault.{StreamFault}
use Rattle.flt_io.specs.declared.stream.StreamFault.TheVariants as faulty

pub nothing_more : (held : Option (List ℕ)) → Appends held held []
nothing_more None = tt
nothing_more (Some bytes) = sym (append-nil bytes)

pub nothing_of : (held : Option (List ℕ)) (text : List ℕ) → AppendsFront held held text
nothing_of held text = (0, nothing_more held)

pub appends_more : (a b c : Option (List ℕ)) (xs ys : List ℕ) → Appends a b xs → Appends b c ys → Appends a c (xs ++ ys)
appends_more None b c xs ys first second = tt
appends_more (Some a) None c xs ys first second = absurd first
appends_more (Some a) (Some b) None xs ys first second = absurd second
appends_more (Some a) (Some b) (Some c) xs ys first second = second ∙ ap (λ l. l ++ ys) first ∙ append_assoc a xs ys

-- After a text that was written comes a front of both.
pub front_more : (a b c : Option (List ℕ)) (xs ys : List ℕ) → Appends a b xs → AppendsFront b c ys → AppendsFront a c (xs ++ ys)
front_more a b c xs ys first front = (length xs + front.0, subst (Appends a c) (sym (take-append-add xs ys front.0)) (appends_more a b c xs (take front.0 ys) first front.1))

-- What was written where the writing failed.
pub front_of : {K T : Type 0} (held : K → Option (List ℕ)) (faults : K → ℕ) (before after : K) (text : List ℕ) (result : Result T StreamFault) (fault : StreamFault) → result ≡ Err fault → Writes held faults before after text result
    → AppendsFront (held before) (held after) text
front_of held faults before after text result fault is writes = subst (λ r. OnErr r (AppendsFront (held before) (held after) text)) is writes.err

-- Memory ran out before anything was pushed.
pub nothing_written : {K T : Type 0} (held : K → Option (List ℕ)) (faults : K → ℕ) (sink : K) (text : List ℕ) (result : Result T StreamFault) → result ≡ Err faulty.Memory → Writes held faults sink sink text result
nothing_written held faults sink text result is =
    subst (Writes held faults sink sink text) (sym is) (record { ok = tt; err = nothing_of (held sink) text; later = omega arith; cause = λ other. absurd (cc other) })
