use Rattle.std.proofs.Common.{◌≡◌, ℕ, ◌<◌, List, [], ◌∷◌, length, Bool, true, false, ◌&&◌, None, refl, arith, rules}
use Rattle.std.proofs.lemmas.Slice.Eq.{text_from_reads}
use Rattle.std.specs.Prelude.{codes}
use Rattle.flt_script.specs.Line.{keyword_in, storage_keywords}
use Rattle.flt_script.proofs.keyword.read_storage_keyword.Goals as goal

pub returns-in-fault : goal.returns-in-fault
returns-in-fault c = rw (text_from_reads c.args.word.now (codes "fault") (omega arith) (search rules)) refl

pub returns-in-drain : goal.returns-in-drain
returns-in-drain c = rw (text_from_reads c.args.word.now (codes "drain") (omega arith) (search rules)) refl

pub returns-in-power : goal.returns-in-power
returns-in-power c = rw (text_from_reads c.args.word.now (codes "power") (omega arith) (search rules)) refl

pub returns-in-save : goal.returns-in-save
returns-in-save c = rw (text_from_reads c.args.word.now (codes "save") (omega arith) (search rules)) refl

pub returns-in-post : goal.returns-in-post
returns-in-post c = rw (text_from_reads c.args.word.now (codes "post") (omega arith) (search rules)) refl

pub returns-in-urge : goal.returns-in-urge
returns-in-urge c = rw (text_from_reads c.args.word.now (codes "urge") (omega arith) (search rules)) refl

pub returns-in-get : goal.returns-in-get
returns-in-get c = rw (text_from_reads c.args.word.now (codes "get") (omega arith) (search rules)) refl

pub returns-in-ask : goal.returns-in-ask
returns-in-ask c = rw (text_from_reads c.args.word.now (codes "ask") (omega arith) (search rules)) refl

pub returns-in-cut : goal.returns-in-cut
returns-in-cut c = rw (text_from_reads c.args.word.now (codes "cut") (omega arith) (search rules)) refl

pub returns-in-mute : goal.returns-in-mute
returns-in-mute c = rw (text_from_reads c.args.word.now (codes "mute") (omega arith) (search rules)) refl

pub returns-in-par : goal.returns-in-par
returns-in-par c = rw (text_from_reads c.args.word.now (codes "par") (omega arith) (search rules)) refl

pub returns-in-lane : goal.returns-in-lane
returns-in-lane c = rw (text_from_reads c.args.word.now (codes "lane") (omega arith) (search rules)) refl

pub returns-in-end : goal.returns-in-end
returns-in-end c = rw (text_from_reads c.args.word.now (codes "end") (omega arith) (search rules)) refl

and_none : (test : Bool) → (test && false) ≡ false
and_none true = refl
and_none false = refl

-- No keyword has less than three letters.
short : (word : List ℕ) → length word < 3 → None ≡ keyword_in storage_keywords word
short [] few = refl
short (a ∷ []) few = simp and_none
short (a ∷ b ∷ []) few = simp and_none
short (a ∷ b ∷ c ∷ more) few = absurd (omega (arith, few))

pub returns-in_default : goal.returns-in_default
returns-in_default c = short c.args.word.now c.in_default.len_below
