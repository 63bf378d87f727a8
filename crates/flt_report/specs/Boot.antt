-- The line that begins a life.
use Rattle.std.specs.Prelude.{ℕ, List, [], ◌∷◌, ◌++◌, codes}
use Rattle.std.specs.Fmt.{decimal}
use Rattle.flt_store_model.specs.declared.mark.Mark.{Mark}
use Rattle.flt_store_model.specs.declared.place.Place.{Place}
use Rattle.flt_store_model.specs.declared.place.Place.TheVariants.{Page, Block}
use Rattle.flt_restore.specs.declared.fault.StartFault.{StartFault}
use Rattle.flt_restore.specs.declared.fault.StartFault.TheVariants.{Flash, Damaged, OtherConfig, SequenceSpent}
use Rattle.flt_life_model.specs.declared.life.Boot.{Boot}
use Rattle.flt_life_model.specs.declared.life.Boot.TheVariants.{Started, Dark, Refused}

-- Where an image is damaged.
abbrev pub place_text : Place → List ℕ
place_text (Page sector page) = codes "sector " ++ decimal sector ++ codes " page " ++ decimal page
place_text (Block id) = codes "block " ++ decimal id

-- The numbers of a configuration's mark.
unfoldable pub mark_text : Mark → List ℕ
mark_text mark =
    codes "config " ++ decimal mark.id ++ codes " events " ++ decimal mark.events ++ codes " entries " ++ decimal mark.entries

-- Why a life was refused. A start-up that answers Flash refuses none: the life is dark.
abbrev pub refusal_text : StartFault → List ℕ
refusal_text Flash = []
refusal_text (Damaged place) = place_text place
refusal_text (OtherConfig found wanted) = mark_text found ++ codes " wanted " ++ mark_text wanted
refusal_text SequenceSpent = codes "sequence"

-- What a power-up came to.
abbrev pub boot_text : Boot → List ℕ
boot_text (Started generation start) = codes "generation " ++ decimal generation
boot_text Dark = codes "dark"
boot_text (Refused fault) = codes "refused " ++ refusal_text fault

-- The line that begins the life of this number.
abbrev pub boot_line : ℕ → Boot → List ℕ
boot_line life boot = codes "life " ++ decimal life ++ 32 ∷ boot_text boot ++ 10 ∷ []
