-- The pairs of an event line, which may come in any order: a key, and after it its values.
use Rattle.std.specs.Prelude.{ℕ, ◌+◌, List, [], ◌∷◌, take, drop, Bool, true, nat_lt, Option, option_map, unwrap_or, codes}
use Rattle.std.specs.List.{position, count_by, list_any}
use Rattle.std.specs.Str.{bytes_eq}
use Rattle.flt_script.specs.declared.pair.Key.{Key}
use Rattle.flt_script.specs.declared.pair.Key.TheVariants.{Dtc, Priority, Cycle, Confirm, Heal, Age, Lamp, Needs, Count, JumpUp, JumpDown, Time}

-- The words that begin the pairs.
abbrev pub spelling : Key → List ℕ
spelling Dtc = codes "dtc"
spelling Priority = codes "prio"
spelling Cycle = codes "cycle"
spelling Confirm = codes "confirm"
spelling Heal = codes "heal"
spelling Age = codes "age"
spelling Lamp = codes "lamp"
spelling Needs = codes "needs"
spelling Count = codes "count"
spelling JumpUp = codes "jumpup"
spelling JumpDown = codes "jumpdown"
spelling Time = codes "time"

-- All of them.
abbrev pub keys : List Key
keys = Dtc ∷ Priority ∷ Cycle ∷ Confirm ∷ Heal ∷ Age ∷ Lamp ∷ Needs ∷ Count ∷ JumpUp ∷ JumpDown ∷ Time ∷ []

-- The word begins this pair.
abbrev pub spells : Key → List ℕ → Bool
spells key word = bytes_eq word (spelling key)

-- The word begins a pair.
abbrev pub is_key : List ℕ → Bool
is_key word = list_any (λ key. spells key word) keys

-- The pair occurs more than once.
abbrev pub stands_twice : Key → List (List ℕ) → Bool
stands_twice key words = nat_lt 1 (count_by (spells key) words)

-- Some pair does.
abbrev pub any_twice : List (List ℕ) → Bool
any_twice words = list_any (λ key. stands_twice key words) keys

-- No word comes before the first pair.
abbrev pub starts_with_key : List (List ℕ) → Bool
starts_with_key [] = true
starts_with_key (word ∷ words) = is_key word

-- The words before the next key.
abbrev pub before_key : List (List ℕ) → List (List ℕ)
before_key words = unwrap_or (option_map (λ end. take end words) (position is_key words)) words

-- The words after the place of a key, up to the next key.
abbrev pub values_of : Key → List (List ℕ) → Option (List (List ℕ))
values_of key words = option_map (λ place. before_key (drop (place + 1) words)) (position (spells key) words)
