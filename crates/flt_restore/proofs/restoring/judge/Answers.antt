use Rattle.std.proofs.Common.{◌≡◌, ◌∙◌, inl, inr}
use Rattle.std.specs.Prelude.{IsFalse}
use Rattle.flt_flash.specs.declared.blocks.Blocks.{Ghosts}
use Rattle.flt_nvm.specs.declared.nvm.Nvm.{Nvm}
use Rattle.flt_nvm.specs.Driver.{driver_of, table_of}
use Rattle.flt_restore.specs.Found.{Reads, held_content}
use Rattle.flt_restore.specs.Needs.{ReadsImage}
use Rattle.flt_restore.specs.Restored.{Refuses}
use Rattle.flt_restore.proofs.Rows.{mark_is_single}
use Rattle.flt_restore.proofs.Judged.{refused, restores}
use Rattle.flt_restore.proofs.Telling.{each_fault, handed_on, more_reads, same_values}
use Rattle.flt_restore.proofs.Failing.{commit_unread_from, source_from, was_flash}
use Rattle.flt_restore.proofs.restoring.judge.Goals as goal
use Rattle.flt_restore.proofs.restoring.judge.Goals.{After-read_image}

pub read_content-requires-clause-single : goal.read_content-requires-clause-single
read_content-requires-clause-single g c = mark_is_single

pub returns-clause-restored : goal.returns-clause-restored
returns-clause-restored g c =
    let config = c.args.config.now in
    let start = driver_of c.args.nvm.now in
    let marked = driver_of c.read_content.new.nvm in
    let before = driver_of c.read_commit.new.nvm in
    let after = driver_of c.read_image.new.nvm in
    let content = held_content c.in_ok-source.source.held in
    let so_far = more_reads start marked before c.in_ok-mark.ensures.reads c.in_ok-source.ensures.reads in
    let source = source_from start marked before content c.in_ok-source.source.copy c.in_ok-mark.ensures.reads.calls c.in_ok-mark.ensures.reads.values c.in_ok-source.ensures.source in
    restores config start before after (same_values start before so_far) content c.in_ok-source.source.copy source c.read_image.ensures.reads.calls.counts c.in_ok-commit.commit c.read_image.new.out
    c.in_ok-commit.ensures.told c.in_ok-commit.ensures.source

pub returns-in_err-commit-clause-refused : goal.returns-in_err-commit-clause-refused
returns-in_err-commit-clause-refused g c =
    let config = c.args.config.now in
    let start = driver_of c.args.nvm.now in
    let marked = driver_of c.read_content.new.nvm in
    let before = driver_of c.read_commit.new.nvm in
    let after = driver_of c.read_image.new.nvm in
    let content = held_content c.in_ok-source.source.held in
    let so_far = more_reads start marked before c.in_ok-mark.ensures.reads c.in_ok-source.ensures.reads in
    let source = source_from start marked before content c.in_ok-source.source.copy c.in_ok-mark.ensures.reads.calls c.in_ok-mark.ensures.reads.values c.in_ok-source.ensures.source in
    each_fault (Refuses config start after) c.from_residual-in_err-commit.result
    (handed_on (Refuses config start after) c.from_residual-in_err-commit.result _ c.from_residual-in_err-commit.ensures.1
    (refused config start before after (same_values start before so_far) content c.in_ok-source.source.copy source c.read_image.ensures.reads.calls.counts _ c.in_err-commit.ensures.refused so_far.calls.counts))

pub returns-in_err-source-clause-unread : goal.returns-in_err-source-clause-unread
returns-in_err-source-clause-unread g c =
    λ flash. inr (inl (commit_unread_from (driver_of c.args.nvm.now) (driver_of c.read_content.new.nvm) (driver_of c.read_commit.new.nvm) c.in_ok-mark.ensures.reads.calls c.in_ok-mark.ensures.reads.values c.in_err-source.ensures.fails.unread))

pub returns-in_err-commit-clause-unread : goal.returns-in_err-commit-clause-unread
returns-in_err-commit-clause-unread g c =
    λ flash.
    let before = driver_of c.read_commit.new.nvm in
    let content = held_content c.in_ok-source.source.held in
    inr (inr (record {
      middle = before;
      earlier = (more_reads (driver_of c.args.nvm.now) (driver_of c.read_content.new.nvm) before c.in_ok-mark.ensures.reads c.in_ok-source.ensures.reads).calls;
      content = content;
      copy = c.in_ok-source.source.copy;
      source = source_from (driver_of c.args.nvm.now) (driver_of c.read_content.new.nvm) before content c.in_ok-source.source.copy c.in_ok-mark.ensures.reads.calls c.in_ok-mark.ensures.reads.values c.in_ok-source.ensures.source;
      unread = c.in_err-commit.ensures.unread (was_flash c.from_residual-in_err-commit.result _ c.from_residual-in_err-commit.ensures.1 flash);
    }))

-- Reads on a driver that was not stale left the image as it was.
image_read : {B : Type 0} {b : Ghosts B} (before after : Nvm B b) → IsFalse (driver_of before).is_stale → Reads (driver_of before) (driver_of after) → table_of after ≡ table_of before → ReadsImage before after
image_read before after fresh reads table = record {
  not_stale = reads.stays fresh;
  values = reads.values;
  image = reads.image fresh;
  spent = reads.spent;
  calls = reads.calls;
  table = table;
}

pub returns-in_err-mark-clause-reads : goal.returns-in_err-mark-clause-reads
returns-in_err-mark-clause-reads g c = image_read c.args.nvm.now c.read_content.new.nvm c.requires.not_stale c.in_err-mark.ensures.reads c.in_err-mark.ensures.table

pub returns-in_err-source-clause-reads : goal.returns-in_err-source-clause-reads
returns-in_err-source-clause-reads g c =
    image_read c.args.nvm.now c.read_commit.new.nvm c.requires.not_stale
    (more_reads (driver_of c.args.nvm.now) (driver_of c.read_content.new.nvm) (driver_of c.read_commit.new.nvm) c.in_ok-mark.ensures.reads c.in_err-source.ensures.reads)
    (c.in_err-source.ensures.table ∙ c.in_ok-mark.ensures.table)

so_far : (g : _) (c : After-read_image g) → Reads (driver_of c.args.nvm.now) (driver_of c.read_image.new.nvm)
so_far g c =
    let start = driver_of c.args.nvm.now in
    let marked = driver_of c.read_content.new.nvm in
    let before = driver_of c.read_commit.new.nvm in
    more_reads start before (driver_of c.read_image.new.nvm) (more_reads start marked before c.in_ok-mark.ensures.reads c.in_ok-source.ensures.reads) c.read_image.ensures.reads

table_so_far : (g : _) (c : After-read_image g) → table_of c.read_image.new.nvm ≡ table_of c.args.nvm.now
table_so_far g c = c.read_image.ensures.table ∙ c.in_ok-source.ensures.table ∙ c.in_ok-mark.ensures.table

pub returns-in_err-commit-clause-reads : goal.returns-in_err-commit-clause-reads
returns-in_err-commit-clause-reads g c =
    let at = (goal.at.returns-in_err-commit-clause-reads g c).After-read_image in
    image_read c.args.nvm.now c.read_image.new.nvm c.requires.not_stale (so_far g at) (table_so_far g at)

pub returns-clause-reads : goal.returns-clause-reads
returns-clause-reads g c =
    let at = (goal.at.returns-clause-reads g c).After-read_image in
    image_read c.args.nvm.now c.read_image.new.nvm c.requires.not_stale (so_far g at) (table_so_far g at)
