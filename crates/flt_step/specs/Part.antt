-- A part of a life: a step by itself, or a block of lanes, whose steps are done at the same time.
use Rattle.std.specs.Prelude.{◌⊎◌, List, map}
use Rattle.std.proofs.Common.{inl, inr}
use Rattle.flt_step.specs.declared.step.Part.{Part}
use Rattle.flt_step.specs.declared.step.Part.TheVariants.{One, Lanes}
use Rattle.flt_step.specs.declared.step.Step.{Step}

-- A part of a life, without where it lies in memory: a step by itself, or the lanes of a block.
abbrev pub PartOf : Type 0 → Type 0
PartOf T = T ⊎ List (List T)

-- A part without where it lies in memory.
abbrev pub part_of : Part → PartOf Step
part_of (One step) = inl step
part_of (Lanes lanes) = inr (map (λ lane. lane.items) lanes.items)

-- Parts without where they lie in memory.
abbrev pub parts_of : List Part → List (PartOf Step)
parts_of parts = map part_of parts
