-- Worked numbers, bytes and event lines of a script, each at its bound, and the configuration and reports of a load.
use Rattle.std.specs.Prelude.{◌≡◌, ℕ, pos, negsuc, List, [], ◌∷◌, ◌++◌, map, take, drop, codes, Bool, true, false, Option, Some, None, option_map}
use Rattle.std.specs.Result.{result_ok}
use Rattle.flt_config.specs.declared.config.Debounce.{Debounce}
use Rattle.flt_config.specs.declared.config.Debounce.TheVariants.{Counter, Time}
use Rattle.flt_config.specs.declared.config.EventCfg.{EventCfg}
use Rattle.flt_model.specs.declared.call.Report.TheVariants.{Passed, Failed, PrePassed, PreFailed}
use Rattle.flt_script.specs.declared.fault.LineCause.TheVariants.{Range}
use Rattle.flt_script.specs.Behind.{blank}
use Rattle.flt_script.specs.Causes.{cause_holds, is_strange}
use Rattle.flt_script.specs.Load.{load_config, load_lanes}
use Rattle.flt_script.specs.Next.{with_text}
use Rattle.flt_script.specs.Numeral.{hexadecimal, number, signed}
use Rattle.flt_script.specs.Text.{is_plain}
use Rattle.flt_step.specs.declared.step.Step.TheVariants.{Report}

-- A number has 1 to 10 digits, also after a minus sign, and a plus sign is none.
pub record NumbersHaveTenDigits : Type 0 where
  pub none : number [] ≡ None
  pub ten : number (codes "0000032768") ≡ Some 32768
  pub eleven : number (codes "00000032768") ≡ None
  pub negative : signed (codes "-0000032768") ≡ Some (negsuc 32767)
  pub negative_eleven : signed (codes "-00000032768") ≡ None
  pub zero : signed (codes "-0") ≡ Some (pos 0)
  pub minus : signed (codes "-") ≡ None
  pub plus : signed (codes "+5") ≡ None
  pub six : hexadecimal 6 (codes "00aF10") ≡ Some 44816
  pub five : hexadecimal 6 (codes "0aF10") ≡ None

-- What a line may have, and what is refused there, of the bytes at the bounds.
pub record BytesOfALine : Type 0 where
  pub plain : map is_plain (8 ∷ 9 ∷ 10 ∷ 31 ∷ 32 ∷ 126 ∷ 127 ∷ []) ≡ false ∷ true ∷ false ∷ false ∷ true ∷ true ∷ false ∷ []
  pub strange : map is_strange (8 ∷ 9 ∷ 10 ∷ 31 ∷ 32 ∷ 126 ∷ 127 ∷ []) ≡ true ∷ false ∷ true ∷ true ∷ false ∷ false ∷ true ∷ []

-- The line of event 0 with these pairs.
abbrev pub event_line : List ℕ → List ℕ
event_line pairs = codes "event 0 dtc 000001 " ++ pairs

-- The events that the first line of a script gives, where it is not refused.
abbrev pub events_of_text : List ℕ → Option (List EventCfg)
events_of_text text = option_map (λ b. b.config.events.items) (result_ok (with_text [] 1 blank text))

-- Whether a number of the first line of a script is out of its range.
abbrev pub is_out : List ℕ → Bool
is_out text = cause_holds [] blank text Range

-- An event of this DTC, with the defaults for the rest.
abbrev pub event_of_load : ℕ → EventCfg
event_of_load dtc = record {
  dtc = dtc;
  priority = 1;
  cycle = 0;
  confirm = 1;
  heal = 3;
  age = 40;
  indicator = false;
  needs = 0;
  debounce = Counter (pos 1) (negsuc 0) (pos 1) (pos 1) None None;
  dids = record { items = [] };
}

-- Each number of an event is kept up to its greatest value: 255, 1 of the lamp, and 65,535 of times.
pub record NumbersOfAnEvent : Type 0 where
  pub all : events_of_text (event_line (codes "prio 255 cycle 255 confirm 255 heal 255 age 255 lamp 1 needs 255 time 65535 65535")) ≡
      Some (record {
        dtc = 1;
        priority = 255;
        cycle = 255;
        confirm = 255;
        heal = 255;
        age = 255;
        indicator = true;
        needs = 255;
        debounce = Time 65535 65535;
        dids = record { items = [] };
      } ∷ [])
  pub in_range : is_out (event_line (codes "prio 255 cycle 255 confirm 255 heal 255 age 255 lamp 1 needs 255 time 65535 65535")) ≡ false
  pub priority : is_out (event_line (codes "prio 256")) ≡ true
  pub cycle : is_out (event_line (codes "cycle 256")) ≡ true
  pub confirm : is_out (event_line (codes "confirm 256")) ≡ true
  pub heal : is_out (event_line (codes "heal 256")) ≡ true
  pub age : is_out (event_line (codes "age 256")) ≡ true
  pub lamp : is_out (event_line (codes "lamp 2")) ≡ true
  pub needs : is_out (event_line (codes "needs 256")) ≡ true
  pub fail_time : is_out (event_line (codes "time 65536 0")) ≡ true
  pub pass_time : is_out (event_line (codes "time 0 65536")) ≡ true

-- An event of the defaults, which is debounced so.
abbrev pub event_debounced_by : Debounce → EventCfg
event_debounced_by by = record (event_of_load 1) { debounce = by }

-- The numbers of a counter are kept up to 32,767, but that at which it passes up to 32,768, and jumps from -32,768 on.
pub record NumbersOfACounter : Type 0 where
  pub all : events_of_text (event_line (codes "count 32767 32768 32767 32767 jumpup 32767 jumpdown -32768"))
      ≡ Some (event_debounced_by (Counter (pos 32767) (negsuc 32767) (pos 32767) (pos 32767) (Some (pos 32767)) (Some (negsuc 32767))) ∷ [])
  pub in_range : is_out (event_line (codes "count 32767 32768 32767 32767 jumpup 32767 jumpdown -32768")) ≡ false
  pub fail : is_out (event_line (codes "count 32768 1 1 1")) ≡ true
  pub pass : is_out (event_line (codes "count 1 32769 1 1")) ≡ true
  pub up : is_out (event_line (codes "count 1 1 32768 1")) ≡ true
  pub down : is_out (event_line (codes "count 1 1 1 32768")) ≡ true
  pub jump_up : is_out (event_line (codes "jumpup 32768")) ≡ true
  pub jump_down : is_out (event_line (codes "jumpdown -32769")) ≡ true

-- A load is of configuration 1: 16 events from DTC 000100 on, 16 entries, 512 pages a sector and no application block. The reports are
-- those of a load of nine.
pub record WorkedLoad : Type 0 where
  pub config : load_config.id ∷ load_config.memory ∷ load_config.pages ∷ load_config.blocks ∷ [] ≡ 1 ∷ 16 ∷ 512 ∷ 0 ∷ []
  pub first : take 1 load_config.events.items ≡ event_of_load 0x000100 ∷ []
  pub last : drop 15 load_config.events.items ≡ event_of_load 0x00010F ∷ []
  pub reports : load_lanes 9 ≡
      (Report 0 PreFailed ∷ Report 2 Failed ∷ Report 1 PrePassed ∷ [])
      ∷ (Report 7 Failed ∷ Report 6 Failed ∷ [])
      ∷ (Report 11 PrePassed ∷ Report 9 Passed ∷ [])
      ∷ (Report 15 Failed ∷ Report 14 PrePassed ∷ [])
      ∷ []
