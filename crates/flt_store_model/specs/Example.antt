-- How a worked map of blocks is written: a configuration of one event, and the bytes of two of its generations; and ones of four and of 65 events.
use Rattle.std.specs.Prelude.{◌≡◌, ℕ, pos, negsuc, true, false, List, [], ◌∷◌, ◌++◌, map, replicate, ◌==◌, if◌then◌else◌, None, Some, Result}
use Rattle.std.specs.List.{concat}
use Rattle.flt_flash.specs.Content.{Content, missing, bytes}
use Rattle.flt_config.specs.declared.config.Config.{Config}
use Rattle.flt_config.specs.declared.config.Debounce.TheVariants as kinds
use Rattle.flt_config.specs.declared.config.EventCfg.{EventCfg}
use Rattle.flt_config.specs.declared.persist.Persist.{Persist}
use Rattle.flt_store_model.specs.Layout.{number_of}
use Rattle.flt_store_model.specs.Holding.{Generation, Fault, held, spare}

-- An event whose frames have two bytes.
abbrev pub two_byte_event : EventCfg
two_byte_event = record {
  dtc = 0x000100;
  priority = 1;
  cycle = 0;
  confirm = 1;
  heal = 3;
  age = 40;
  indicator = false;
  needs = 0;
  debounce = kinds.Counter (pos 1) (negsuc 0) (pos 1) (pos 1) None None;
  dids = record { items = record { id = 0x0101; width = 2 } ∷ [] };
}

-- Configuration 7 has one event, room for one entry, no application block and 64 pages.
abbrev pub small : Config
small = record { id = 7; memory = 1; pages = 64; blocks = 0; events = record { items = two_byte_event ∷ [] } }

-- It has 65 events and 96 pages.
abbrev pub many : Config
many = record { id = 7; memory = 1; pages = 96; blocks = 0; events = record { items = replicate 65 two_byte_event } }

-- It has four events, the third of which has an indicator.
abbrev pub four : Config
four = record { id = 7; memory = 1; pages = 64; blocks = 0; events = record { items = two_byte_event ∷ two_byte_event ∷ record two_byte_event { indicator = true } ∷ two_byte_event ∷ [] } }

-- The mark of one event, in version 2 and in version 1, and the mark of configuration 8.
abbrev pub own_mark : Content
own_mark = bytes (0x02 ∷ 0x00 ∷ 0x07 ∷ 0x00 ∷ 0x01 ∷ 0x01 ∷ 0x00 ∷ 0x00 ∷ [])

abbrev pub old_mark : Content
old_mark = bytes (0x01 ∷ 0x00 ∷ 0x07 ∷ 0x00 ∷ 0x01 ∷ 0x01 ∷ 0x00 ∷ 0x00 ∷ [])

abbrev pub other_mark : Content
other_mark = bytes (0x02 ∷ 0x00 ∷ 0x08 ∷ 0x00 ∷ 0x01 ∷ 0x01 ∷ 0x00 ∷ 0x00 ∷ [])

-- The commit of a generation, with these bits for the blocks 3 to 10: its blocks are 3, 4 and 8, with the bits 01, 02 and 20.
abbrev pub commit : ℕ → ℕ → Content
commit generation bits = bytes (0x02 ∷ 0x00 ∷ 0x00 ∷ 0x00 ∷ generation ∷ bits ∷ 0x00 ∷ 0x00 ∷ 0x00 ∷ 0x00 ∷ [])

-- The same in version 1, with the indices of those blocks.
abbrev pub old_commit : ℕ → ℕ → ℕ → ℕ → Content
old_commit generation summary states entry_content =
    bytes (0x01 ∷ 0x00 ∷ 0x00 ∷ 0x00 ∷ generation ∷ summary ∷ states ∷ 0xFF ∷ 0xFF ∷ 0xFF ∷ entry_content ∷ replicate 15 0xFF)

-- A summary with one entry, and with the event in each note.
abbrev pub summary : Content
summary = bytes (0x01 ∷ 0x00 ∷ 0x01 ∷ 0x00 ∷ replicate 28 0x00)

-- Sixteen states, the first of which has this status and failed count 1.
abbrev pub states : ℕ → Content
states status = bytes (status ∷ 0x01 ∷ 0x00 ∷ 0x00 ∷ concat (replicate 15 (0x50 ∷ 0x00 ∷ 0x00 ∷ 0x00 ∷ [])))

-- An entry of an event, with this occurrence, a first frame 01 02 and this recent one.
abbrev pub entry_content : ℕ → ℕ → List ℕ → Content
entry_content two_byte_event occurrence recent =
    bytes (0x00 ∷ two_byte_event ∷ occurrence ∷ 0x02 ∷ 0x01 ∷ 0x02 ∷ (replicate 30 0x00 ++ recent ++ replicate 30 0x00))

-- The state of the event after it failed this many times, with this status and this recent frame.
abbrev pub failed_state : ℕ → ℕ → List ℕ → Persist
failed_state status occurrence recent = record {
  events = record { items = record { status = status; failed = 1; clean = 0; lit = false } ∷ [] };
  entries = record {
    items = record {
      event = 0;
      occurrence = occurrence;
      first = record { items = 0x01 ∷ 0x02 ∷ [] };
      recent = record { items = recent };
    } ∷ [];
  };
  overflow = false;
  first_failed = Some 0;
  first_confirmed = Some 0;
  recent_failed = Some 0;
  recent_confirmed = Some 0;
}

-- What a number holds.
pub record Kept : Type 0 where
  pub number : ℕ
  pub content : Content

-- A block's copy or index holds this.
abbrev pub block : ℕ → ℕ → Content → Kept
block id index content = record { number = number_of id index; content = content }

-- Each number holds what comes first for it, and otherwise nothing.
abbrev pub holds : List Kept → ℕ → Content
holds [] number = missing
holds (kept ∷ rest) number = if kept.number == number then kept.content else holds rest number

-- A map of blocks, and what it is judged to hold by either copy of its commit.
pub record Judged : Type 0 where
  pub blocks : List Kept
  pub held : Result Generation Fault
  pub spare : Result Generation Fault

abbrev pub judged : List Kept → Result Generation Fault → Result Generation Fault → Judged
judged blocks by_first by_second = record { blocks = blocks; held = by_first; spare = by_second }

-- The maps are judged as given.
pub record AreJudged (c : Config) (rows : List Judged) : Type 0 where
  pub by_first : map (λ row. held c (holds row.blocks)) rows ≡ map (λ row. row.held) rows
  pub by_second : map (λ row. spare c (holds row.blocks)) rows ≡ map (λ row. row.spare) rows
