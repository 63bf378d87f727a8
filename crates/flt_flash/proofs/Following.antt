-- One operation after another.
use Rattle.std.proofs.Common.{◌≡◌, Result, refl, ◌∙◌, arith}
use Rattle.flt_flash.specs.declared.flash.FlashFailed.{FlashFailed}
use Rattle.flt_flash.specs.State.{BenchState, KeepsBench, FlashState, Operates, MakesOperations, OnlyReads}

pub bench_kept : (bench : BenchState) → KeepsBench bench bench
bench_kept bench = record { boots = refl; boots_left = refl; arms = refl; armed = omega arith }

pub bench_on : {first second third : BenchState} → KeepsBench first second → KeepsBench second third → KeepsBench first third
bench_on one two = record {
  boots = two.boots ∙ one.boots;
  boots_left = two.boots_left ∙ one.boots_left;
  arms = two.arms ∙ one.arms;
  armed = omega (arith, one.armed, two.armed);
}

pub no_run : (state : FlashState) → MakesOperations state state
no_run state = record {
  pages = refl;
  counts = omega arith;
  operations = omega arith;
  erases = omega arith;
  stays_off = λ off. off;
  stays_while_off = λ off. refl;
  counts_for_no_arm = λ off. refl;
  bench = bench_kept state.bench;
}

pub one_run : {T : Type 0} {result : Result T FlashFailed} {before after : FlashState} → Operates before after result → MakesOperations before after
one_run does = record {
  pages = does.pages;
  counts = does.counts;
  operations = omega (arith, does.operations);
  erases = does.erases;
  stays_off = does.stays_off;
  stays_while_off = does.stays_while_off;
  counts_for_no_arm = does.counts_for_no_arm;
  bench = does.bench;
}

pub runs_on : {first second third : FlashState} → MakesOperations first second → MakesOperations second third → MakesOperations first third
runs_on {first} {second} {third} one two = record {
  pages = two.pages ∙ one.pages;
  counts = omega (arith, one.counts, two.counts);
  operations = omega (arith, one.operations, two.operations);
  erases = omega (arith, one.erases, two.erases);
  stays_off = λ off. two.stays_off (one.stays_off off);
  stays_while_off = λ off. two.stays_while_off (one.stays_off off) ∙ one.stays_while_off off;
  counts_for_no_arm = λ off. two.counts_for_no_arm (one.stays_off off) ∙ one.counts_for_no_arm off;
  bench = bench_on one.bench two.bench;
}

pub no_reads : (state : FlashState) → OnlyReads state state
no_reads state = record { runs = no_run state; image = refl; wear = refl }

pub one_read : {T : Type 0} {result : Result T FlashFailed} {before after : FlashState} → Operates before after result → after.image ≡ before.image → after.wear ≡ before.wear → OnlyReads before after
one_read does image wear = record { runs = one_run does; image = image; wear = wear }

pub reads_on : {first second third : FlashState} → OnlyReads first second → OnlyReads second third → OnlyReads first third
reads_on one two = record { runs = runs_on one.runs two.runs; image = two.image ∙ one.image; wear = two.wear ∙ one.wear }
