-- The lanes of a life, handed out to its blocks.
use Rattle.std.proofs.Common.{◌≡◌, inl, inr, List, [], ◌∷◌, ◌++◌, All, length, map, arith, append_assoc, refl, sym, ap, ◌∙◌}
use Rattle.std.proofs.lemmas.List.{length-map, map-append}
use Rattle.std.proofs.lemmas.List.Elements.{All-append, All-cons, All-nil, All-tail}
use Rattle.flt_step.specs.declared.step.Step.{Step}
use Rattle.flt_step.specs.Part.{PartOf}
use Rattle.flt_life_model.specs.declared.room.LaneRoom.{LaneRoom}
use Rattle.flt_life_model.specs.Parts.{lanes_in}
use Rattle.flt_life_model.specs.Room.{IsLaneRoom, steps_of}
use Rattle.flt_lane.specs.Views.{BlockRoom}
use Rattle.flt_lane.specs.Room.{AreRoomsOf, IsBlockRoom, blocks_in, lanes_of}

-- Two lists in one another's place, of which the first pieces are as long.
record AreSame {X : Type 0} (xs ys first second : List X) : Type 0 where
  pub front : xs ≡ first
  pub back : ys ≡ second

same_pieces : {X : Type 0} (xs ys first second : List X) → xs ++ ys ≡ first ++ second → length xs ≡ length first → AreSame xs ys first second
same_pieces [] ys [] second is long = record { front = refl; back = is }
same_pieces [] ys (a ∷ first) second is long = absurd (omega (arith, long))
same_pieces (x ∷ xs) ys [] second is long = absurd (omega (arith, long))
same_pieces {X} (x ∷ xs) ys (a ∷ first) second is long =
    let one : x ≡ a = cc in
    let others : xs ++ ys ≡ first ++ second = cc in
    let rest = same_pieces xs ys first second others (omega (arith, long)) in
    record { front = λ i. one i ∷ rest.front i; back = rest.back }

-- The rooms that were taken for a block are those of its lanes, and those of the later blocks are left.
pub record AreTaken (block : List (List Step)) (rooms left : List LaneRoom) (later : List (List Step)) : Type 0 where
  pub taken : steps_of rooms ≡ block
  pub rest : steps_of left ≡ later

pub taken_rooms : (block later : List (List Step)) (all rooms left : List LaneRoom) → rooms ++ left ≡ all → length rooms ≡ length block → steps_of all ≡ block ++ later → AreTaken block rooms left later
taken_rooms block later all rooms left are count is =
    let pieces : steps_of rooms ++ steps_of left ≡ block ++ later = sym (map-append (λ (r : LaneRoom). r.steps.now) rooms left) ∙ ap steps_of are ∙ is in
    let long : length (steps_of rooms) ≡ length block = length-map rooms (λ (r : LaneRoom). r.steps.now) ∙ count in
    let same = same_pieces (steps_of rooms) (steps_of left) block later pieces long in
    record { taken = same.front; rest = same.back }

-- ---- the rooms of blocks

-- The next room is that of the block.
pub next_room : (part : PartOf Step) (block : List (List Step)) (later : List (PartOf Step)) (room : BlockRoom) (rooms left : List BlockRoom) → part ≡ inr block → rooms ≡ room ∷ left → AreRoomsOf (part ∷ later) rooms → part ≡ inr (lanes_of room)
next_room part block later room rooms left is next are =
    let all : lanes_of room ∷ map lanes_of left ≡ block ∷ blocks_in later = ap (map lanes_of) (sym next) ∙ are.lanes_are ∙ ap (λ p. blocks_in (p ∷ later)) is in
    let same : lanes_of room ≡ block = cc in
    is ∙ ap (λ l. inr l) (sym same)

-- The others are those of the later blocks.
pub rooms_behind : (block : List (List Step)) (later : List (PartOf Step)) (room : BlockRoom) (left : List BlockRoom) → AreRoomsOf (inr block ∷ later) (room ∷ left) → AreRoomsOf later left
rooms_behind block later room left are =
    let all : lanes_of room ∷ map lanes_of left ≡ block ∷ blocks_in later = are.lanes_are in
    record { lanes_are = cc; ready = All-tail IsBlockRoom room left are.ready }

-- Some parts have their rooms, and these are left, with the lanes of theirs.
pub record AreHandedOut (parts left : List (PartOf Step)) (rooms : List BlockRoom) (lanes : List LaneRoom) : Type 0 where
  pub blocks : map lanes_of rooms ++ blocks_in left ≡ blocks_in parts
  pub rooms_ready : All IsBlockRoom rooms
  pub lanes_are : steps_of lanes ≡ lanes_in left
  pub ready : All IsLaneRoom lanes

-- A step needs none.
pub hand_none : (step : Step) (parts left later : List (PartOf Step)) (rooms : List BlockRoom) (lanes : List LaneRoom) → left ≡ inl step ∷ later → AreHandedOut parts left rooms lanes → AreHandedOut parts later rooms lanes
hand_none step parts left later rooms lanes next so_far = record {
  blocks = ap (λ l. map lanes_of rooms ++ blocks_in l) (sym next) ∙ so_far.blocks;
  rooms_ready = so_far.rooms_ready;
  lanes_are = so_far.lanes_are ∙ ap lanes_in next;
  ready = so_far.ready;
}

-- A block has one more.
pub hand_more : (block : List (List Step)) (parts left later : List (PartOf Step)) (rooms : List BlockRoom) (lanes : List LaneRoom) (room : BlockRoom) (others : List LaneRoom) → left ≡ inr block ∷ later → AreHandedOut parts left rooms lanes
    → steps_of room.lanes.items ≡ block → IsBlockRoom room → steps_of others ≡ lanes_in later → All IsLaneRoom others → AreHandedOut parts later (rooms ++ room ∷ []) others
hand_more block parts left later rooms lanes room others next so_far is room_ready others_are others_ready = record {
  blocks = ap (λ l. l ++ blocks_in later) (map-append lanes_of rooms (room ∷ []))
      ∙ append_assoc (map lanes_of rooms) (lanes_of room ∷ []) (blocks_in later)
      ∙ ap (λ l. map lanes_of rooms ++ l ∷ blocks_in later) is
      ∙ ap (λ l. map lanes_of rooms ++ blocks_in l) (sym next) ∙ so_far.blocks;
  rooms_ready = All-append IsBlockRoom rooms (room ∷ []) so_far.rooms_ready (All-cons IsBlockRoom room [] room_ready (All-nil IsBlockRoom));
  lanes_are = others_are;
  ready = others_ready;
}

-- The lanes of the next block are the next ones.
pub next_lanes : (block : List (List Step)) (parts left later : List (PartOf Step)) (rooms : List BlockRoom) (lanes : List LaneRoom) → left ≡ inr block ∷ later → AreHandedOut parts left rooms lanes → steps_of lanes ≡ block ++ lanes_in later
next_lanes block parts left later rooms lanes next so_far = so_far.lanes_are ∙ ap lanes_in next
