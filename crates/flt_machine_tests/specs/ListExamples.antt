-- Worked examples of long lists and of the values of data identifiers.
use Rattle.std.specs.Prelude.{◌≡◌, ◌+◌, ◌^◌, ◌==◌, if◌then◌else◌, map, flat_map, [], ◌∷◌, pos, negsuc, None, Some}
use Rattle.flt_config.specs.declared.config.Debounce.TheVariants as kinds
use Rattle.flt_model.specs.Start.{fresh}
use Rattle.flt_model.specs.Durable.{below}
use Rattle.flt_model.specs.Frame.{active_bits, did_value}
use Rattle.flt_model.specs.declared.call.Op.TheVariants.{Cycle}
use Rattle.flt_model.specs.declared.call.ReplyOf.TheVariants.{Taken}
use Rattle.flt_model.specs.Example.{event, configured, ◌⇒◌, Replays, prefail, asks, responds}

-- All of more than 64 DTCs are listed as supported, and with their counters.
abbrev pub ListsOfManyDtcs : Type 0
ListsOfManyDtcs =
    Replays (fresh (configured 16 (map (λ e. record (event (e + 1)) { debounce = kinds.Counter (pos 127) (negsuc 0) (pos 1) (pos 1) None None }) (below 66))))
    (asks 0 (0x19 ∷ 0x0A ∷ []) ⇒ responds (0x59 ∷ 0x0A ∷ 0xFF ∷ flat_map (λ e. 0x00 ∷ 0x00 ∷ (e + 1) ∷ 0x50 ∷ []) (below 66))
    ∷ Cycle 0 ⇒ Taken
    ∷ prefail 65 ⇒ Taken
    ∷ asks 0 (0x19 ∷ 0x14 ∷ []) ⇒ responds (0x59 ∷ 0x14 ∷ 0x00 ∷ 0x00 ∷ 0x42 ∷ 0x01 ∷ [])
    ∷ [])

-- Each active signal is its own bit of data identifier 0105, and each of the others has its signals.
pub record ValuesOfIdentifiers : Type 0 where
  pub bits : map (λ i. active_bits (map (λ k. if k == i then 1 else 0) (below 8))) (below 8) ≡ map (λ i. 2 ^ i) (below 8)
  pub values : map (λ id. did_value id (1 ∷ 2 ∷ 3 ∷ 4 ∷ 5 ∷ 6 ∷ 7 ∷ 8 ∷ [])) (0x0101 ∷ 0x0102 ∷ 0x0103 ∷ 0x0104 ∷ 0x0105 ∷ 0x0106 ∷ 0x0107 ∷ [])
      ≡ Some 1 ∷ Some 2 ∷ Some 3 ∷ Some 0x00040005 ∷ Some 0xFF ∷ Some 13 ∷ Some 0x0001000200030004 ∷ []
