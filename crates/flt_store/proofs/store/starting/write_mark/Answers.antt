use Rattle.std.proofs.Common.{◌≡◌, inl, inr, ⊎_elim, ◌∙◌, ℕ, List, Result, Err, length, ap, refl, sym, subst, arith}
use Rattle.std.specs.Prelude.{IsTrue}
use Rattle.flt_flash.specs.Content.{bytes}
use Rattle.flt_flash.specs.declared.blocks.BlockFault.{BlockFault}
use Rattle.flt_flash.specs.declared.blocks.BlockFault.TheVariants.{Flash}
use Rattle.flt_nvm.specs.Driver.{driver_of}
use Rattle.flt_nvm.specs.Leaves.{GivesInAJob}
use Rattle.flt_store_model.specs.declared.mark.Mark.{Mark}
use Rattle.flt_store_model.specs.Layout.{mark_number}
use Rattle.flt_store_model.specs.Form.{mark_of, mark_bytes}
use Rattle.flt_store_model.proofs.Marks.{mark_size}
use Rattle.flt_restore.specs.Restored.{IsMarkDue}
use Rattle.flt_store.proofs.TableUse.{mark_index, mark_fits, mark_alone}
use Rattle.flt_store.proofs.Causes.{no_write, one_write}
use Rattle.flt_store.proofs.Running.{on_ok}
use Rattle.flt_store.proofs.Marks.{stands_anew}
use Rattle.flt_store.proofs.Dark.{write_at_once}
use Rattle.flt_store.proofs.store.starting.write_mark.Goals as goal

pub write-requires-clause-index : goal.write-requires-clause-index
write-requires-clause-index g c = mark_index _ c.requires.table

pub write-requires-clause-fits : goal.write-requires-clause-fits
write-requires-clause-fits g c =
    let size : length c.put_mark.result ≡ 8 = ap (λ (raw : List ℕ). length raw) c.put_mark.ensures ∙ mark_size c.args.mark.now in
    mark_fits _ c.requires.table _ (omega (arith, size))

pub returns-then-is_due-clause-mark : goal.returns-then-is_due-clause-mark
returns-then-is_due-clause-mark g c = λ config same.
    let before = driver_of c.args.nvm.now in
    let after = driver_of c.write.new.self in
    let content = before.value mark_number in
    let due = subst (λ (mark : Mark). IsMarkDue mark content) same (c.requires.due.0 c.if-is_due.true) in
    let raw = c.put_mark.ensures ∙ ap mark_bytes same in
    let gives = mark_alone _ c.requires.table _ _ c.write.ensures.gives in
    let job = mark_alone _ c.requires.table _ _ c.write.ensures.jobs in
    record {
      marked = λ commit allows. on_ok c.write.result (λ is. is ∙ ap bytes raw) gives.holds_asked;
      tried = ⊎_elim (λ kept. inl kept) (λ is. inr (due, is ∙ ap bytes raw)) gives.either;
      unwritten = λ flash.
          (let failed = subst (λ (result : Result (Unit {0}) BlockFault). GivesInAJob mark_number (bytes c.put_mark.result) (length c.put_mark.result) before after result) flash job in (
            due,
            write_at_once mark_number (mark_bytes (mark_of config)) before after
                (subst (λ (held : List ℕ). GivesInAJob mark_number (bytes held) (length held) before after (Err Flash)) raw failed)
                (mark_alone _ c.requires.table _ _ (c.write.ensures.named flash)),
          ));
      stuck = λ spent. record { due = due; stuck = subst (λ (held : List ℕ). IsTrue (after.is_stuck mark_number (length held))) raw (gives.spent spent) };
    }

pub returns-then-is_due-clause-others : goal.returns-then-is_due-clause-others
returns-then-is_due-clause-others g c = λ other apart.
    let gives = mark_alone _ c.requires.table _ _ c.write.ensures.gives in
    gives.others other apart

pub returns-then-is_due-clause-writes : goal.returns-then-is_due-clause-writes
returns-then-is_due-clause-writes g c =
    let size : length c.put_mark.result ≡ 8 = ap (λ (raw : List ℕ). length raw) c.put_mark.ensures ∙ mark_size c.args.mark.now in
    let gives = mark_alone _ c.requires.table _ _ c.write.ensures.gives in
    one_write (driver_of c.args.nvm.now) (driver_of c.write.new.self) c.write.result c.write.ensures.calls c.write.ensures.three _ _ _ (omega (arith, size)) gives

pub returns-else-is_due-clause-writes : goal.returns-else-is_due-clause-writes
returns-else-is_due-clause-writes g c = no_write (driver_of c.args.nvm.now)

pub returns-else-is_due-clause-mark : goal.returns-else-is_due-clause-mark
returns-else-is_due-clause-mark g c = λ config same.
    let content = (driver_of c.args.nvm.now).value mark_number in
    record {
      marked = λ commit allows. stands_anew config content commit allows (λ due.
          let yes = c.requires.due.1 (subst (λ (mark : Mark). IsMarkDue mark content) (sym same) due) in
          let no = c.if-is_due.false in
          cc (yes, no));
      tried = inl refl;
      unwritten = λ flash. absurd (cc flash);
      stuck = λ spent. absurd (cc spent);
    }
