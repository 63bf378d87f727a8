-- What is seen of a run, by what its source, its sink and its device reveal before it and after it.
use Rattle.std.specs.Prelude.{ℕ, List, Option}
use Rattle.flt_config.specs.declared.config.Config.{Config}
use Rattle.flt_flash.specs.State.{FlashState}
use Rattle.flt_life_model.specs.Moment.{Medium}
use Rattle.flt_run.specs.Ending.{RunInside, RunOutside}

-- The inside of a run: a source that reveals the bytes that it has left and its count of faults, and a device over media.
abbrev pub inside_of : {S : Type 0} → (S → Option (List ℕ)) → (S → ℕ) → S → S → (Config → Medium) → FlashState → FlashState → RunInside
inside_of left faults source source_after media device device_after = record {
  left = left source;
  left_after = left source_after;
  read_faults = faults source;
  read_faults_after = faults source_after;
  media = media;
  device = device;
  device_after = device_after;
}

-- The outside of a run: a sink that reveals the bytes that it holds and its count of faults.
abbrev pub outside_of : {K : Type 0} → (K → Option (List ℕ)) → (K → ℕ) → K → K → RunOutside
outside_of held faults sink sink_after = record {
  held = held sink;
  held_after = held sink_after;
  write_faults = faults sink;
  write_faults_after = faults sink_after;
}
