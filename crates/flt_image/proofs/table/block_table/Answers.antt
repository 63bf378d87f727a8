use Rattle.std.proofs.Common.{◌∙◌, ◌++◌, List, ap}
use Rattle.flt_nvm.specs.declared.table.Kind.TheVariants.{Native, Redundant}
use Rattle.flt_nvm.specs.declared.table.BlockCfg.{BlockCfg}
use Rattle.flt_store_model.specs.Layout.{mark_id, commit_id, summary_id, first_states_id, states_blocks, first_entry_id, most_entries, later_states_id, later_states_blocks, first_application, applications}
use Rattle.flt_store_model.specs.Form.{mark_length, commit_length, summary_length, states_length, entry_length, application_length}
use Rattle.flt_image.specs.Table.{rows, part, block_table}
use Rattle.flt_image.proofs.table.block_table.Goals as goal

pub returns : goal.returns
unfolding block_table
returns c =
    c.in_ok-push_rows-7.ensures
    ∙ ap (λ (all : List BlockCfg). all ++ rows Native application_length first_application applications) (c.in_ok-push_rows-6.ensures
    ∙ ap (λ (all : List BlockCfg). all ++ rows part states_length later_states_id later_states_blocks) (c.in_ok-push_rows-5.ensures
    ∙ ap (λ (all : List BlockCfg). all ++ rows part entry_length first_entry_id most_entries) (c.in_ok-push_rows-4.ensures
    ∙ ap (λ (all : List BlockCfg). all ++ rows part states_length first_states_id states_blocks) (c.in_ok-push_rows-3.ensures
    ∙ ap (λ (all : List BlockCfg). all ++ rows part summary_length summary_id 1) (c.in_ok-push_rows-2.ensures
    ∙ ap (λ (all : List BlockCfg). all ++ rows Redundant commit_length commit_id 1) (c.in_ok-push_rows.ensures
    ∙ ap (λ (all : List BlockCfg). all ++ rows Native mark_length mark_id 1) c.new-table.ensures.items))))))
