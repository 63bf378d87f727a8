use Rattle.std.proofs.Common.{refl, arith, rules}
use Rattle.std.proofs.lemmas.List.{nil_from_length}
use Rattle.std.proofs.lemmas.Slice.Eq.{text_from_reads}
use Rattle.std.specs.Prelude.{codes}
use Rattle.flt_script.proofs.keyword.read_call_keyword.Goals as goal

pub returns-in-cycle : goal.returns-in-cycle
returns-in-cycle c = rw (text_from_reads c.args.word.now (codes "cycle") (omega arith) (search rules)) refl

pub returns-in-event : goal.returns-in-event
returns-in-event c = rw (text_from_reads c.args.word.now (codes "event") (omega arith) (search rules)) refl

pub returns-in-flash : goal.returns-in-flash
returns-in-flash c = rw (text_from_reads c.args.word.now (codes "flash") (omega arith) (search rules)) refl

pub returns-in-config : goal.returns-in-config
returns-in-config c = rw (text_from_reads c.args.word.now (codes "config") (omega arith) (search rules)) refl

pub returns-in-memory : goal.returns-in-memory
returns-in-memory c = rw (text_from_reads c.args.word.now (codes "memory") (omega arith) (search rules)) refl

pub returns-in-blocks : goal.returns-in-blocks
returns-in-blocks c = rw (text_from_reads c.args.word.now (codes "blocks") (omega arith) (search rules)) refl

pub returns-in-prepass : goal.returns-in-prepass
returns-in-prepass c = rw (text_from_reads c.args.word.now (codes "prepass") (omega arith) (search rules)) refl

pub returns-in-prefail : goal.returns-in-prefail
returns-in-prefail c = rw (text_from_reads c.args.word.now (codes "prefail") (omega arith) (search rules)) refl

pub returns-in-enable : goal.returns-in-enable
returns-in-enable c = rw (text_from_reads c.args.word.now (codes "enable") (omega arith) (search rules)) refl

pub returns-in-pass : goal.returns-in-pass
returns-in-pass c = rw (text_from_reads c.args.word.now (codes "pass") (omega arith) (search rules)) refl

pub returns-in-fail : goal.returns-in-fail
returns-in-fail c = rw (text_from_reads c.args.word.now (codes "fail") (omega arith) (search rules)) refl

pub returns-in-show : goal.returns-in-show
returns-in-show c = rw (text_from_reads c.args.word.now (codes "show") (omega arith) (search rules)) refl

pub returns-in-tick : goal.returns-in-tick
returns-in-tick c = rw (text_from_reads c.args.word.now (codes "tick") (omega arith) (search rules)) refl

pub returns-in-sig : goal.returns-in-sig
returns-in-sig c = rw (text_from_reads c.args.word.now (codes "sig") (omega arith) (search rules)) refl

pub returns-in-t : goal.returns-in-t
returns-in-t c = rw (text_from_reads c.args.word.now (codes "t") (omega arith) (search rules)) refl

pub returns-in-did : goal.returns-in-did
returns-in-did c = rw (text_from_reads c.args.word.now (codes "did") (omega arith) (search rules)) refl

pub returns-in_default : goal.returns-in_default
returns-in_default c = rw (nil_from_length c.args.word.now (omega arith)) refl
