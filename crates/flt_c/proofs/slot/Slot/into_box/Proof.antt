-- The slot is taken apart, and the box is made of its pointer and its allocator: what a slot owns is what a box owns.
use Rattle.std.proofs.Common.{◌≡◌, List, [], ◌∷◌, refl}
use Rattle.std.proofs.raw_atomic.Walks.{proved}
use base.Fraction.{full_share}
use base.Logic.{id⊢}
use base.Fml.{ftrue, flft}
use mir.Syntax.{impl, tcons, tnil, dnil}
use mir.Val.{Val, vunit, vstruct, vcons, vnil}
use contract.Monad.{fact}
use contract.Running.{tables}
use types.Kit.{‵, raw, ◌⊛◌, some, later, at_ret, ◌$◌, ◌∵◌, !, qed, done, move, keep, drop, use0, use1, use2, split, join, fsplit, pick, await, suffices}
use types.Run.{enter, of_opd, no_more, and_then, first, blocks, exec, returns, stop, fld}
use types.Part.{whole, sub}
use types.ByLocal.{alloc_all, pass_all, free_all, look_at, get, get_in, sets, lands_last, env}
use denote.Exit.{yes, no}
use denote.Laws.{shows}
use denote.RawPtr.{RawPtr, rawptr_Lawful, rawptr_Makes, rawptr_vals}
use denote.Struct.Laws.{makes}
use denote.Signature.{plain}
use denote.Steps.{nothing, owned, heard, peeks}
use denote.Param.{arg, layout}
use denote.Param.Laws.{arg_laws}
use mir.Raw.{raw as written}
use denote.Param.NoDrop.{glues}
use denote.Triple.Carry.{insides_in}
use denote.Triple.Call.{calls_at_last}
use denote.Triple.Clauses.{Lasts, lasts, at_exit}
use denote.Triple.Spec.{triple_of}
use denote.Triple.Walked.{Stays, walk_of, says, stay_dropped, Goes-dropped, ends_at}
use denote.Triple.Table.{framed}
use Rattle.flt_c.proofs.Destruct++none.drop.Code as none
use prog.Routine.{Env}
use prog.Wired.{Wired, node, end}
use denote.Param.NoDrop.{function as no_drop}
use Rattle.flt_c.specs.contracts.slot.Slot.into_box as f
use Rattle.flt_c.specs.contracts.slot.Slot as S
use Rattle.flt_c.proofs.slot.Slot.TheLaws as slot
use Rattle.flt_c.specs.contracts.inner.Inner as Inner
use Rattle.flt_c.proofs.inner.Inner.TheLaws as inner
use Rattle.std_heap.specs.contracts.Global as Global
use Rattle.std_heap.proofs.Global.TheLaws as global
use Rattle.std_heap.specs.contracts.GlobalAllocator.TheImpl.{ghosts, dict}
use Rattle.std_heap.proofs.GlobalAllocator.TheImpl.Met.{passed}
use Rattle.flt_c.proofs.slot.Slot.into_box.Statement.{statement}
use Rattle.flt_c.proofs.slot.Slot.into_box.Code as code
use Rattle.std_alloc.specs.Box.{box_allocator}
use Rattle.std_alloc.proofs.boxed.Box.TheLaws as box
use Rattle.std_alloc.specs.contracts.boxed.Box as Box
use Rattle.std_alloc.specs.contracts.boxed.Box.from_raw as g
use Rattle.std_alloc.proofs.boxed.Box.from_raw.Met.{met}

abbrev stayed : Stays f.ended.signature.params f.ended.kept
stayed = (stay_dropped _ yes, tt)

dropped : (γ : Env) → Wired γ code.code → Wired γ (node (("flt_c::Destruct++none::drop", no_drop) ∷ []) [] end)
unfolding none.code
dropped γ wired = code.calls-flt_c::Destruct++none::drop γ wired

pub into_box_spec : {M : Type 1} → statement M
into_box_spec {M = M} 𝓤 𝓛 𝓜 𝓡 wired =
    let c = f.clauses 𝓛 𝓜.mem 𝓡.returns in let W = walk_of 𝓛 f.ended stayed c in let 𝓣 = tables 𝓤 𝓛.H 𝓜 𝓡 𝓡.env in
    proved 𝓛 f.ended stayed c 𝓜 𝓡 (Goes-dropped 𝓛 0 (plain (λ _. S.the_row)) yes (λ κs x w. refl), tt)
    f.Key.name code.function (code.unfolded 𝓤 𝓛.H 𝓜 𝓡 wired)
    (λ κs. ((λ d. slot.lowered d ∷ []), tt)) (λ κs. (slot.lowers.val_is, tt)) (λ κs qs bounds a _ are.
    let h = a.0 in let vs : List Val = slot.lowered h ∷ [] in
    qed 𝓛 ((‵ ftrue ⊛ ‵ (S.the_row.own_val h vs) ⊛ ‵ ftrue) ∷ ‵ ftrue ∷ []) ∵
    split ! $ move ! (1 ∷ []) $ split ! $ keep ! (0 ∷ []) $ fsplit ! $
    let fits = ((slot.the_field_loose).lawful 𝓛).typed h vs are.0 in
    let pointer = (rawptr_Lawful 𝓛).typed h.at _ refl in
    enter ! _ _ _ _ _ $ alloc_all ! (λ l. pass_all ! refl fits $
    sets ! (of_opd ! (get_in ! (fld ! refl (stop !)) (sub ! 0 refl (whole !)))) refl pointer.0 $
    sets ! (of_opd ! (get_in ! (fld ! refl (stop !)) (sub ! 1 refl (whole !)))) refl (tt, ((tt, tt), tt)) $
    first ! $ blocks ! $
    sets ! (of_opd ! (get ! refl)) refl pointer.0 $
    let Item = arg (written (layout Inner.the_row)) no Inner.the_row in
    let Heap = arg (written (layout Global.the_row)) no Global.the_row in
    let drops = impl ("flt_c::Destruct++none::drop" ∷ []) (tcons (layout Heap) tnil) dnil in
    let G = triple_of 𝓛 (g.signature Item Heap ghosts dict drops) (g.spec Item Heap ghosts dict drops 𝓛 𝓜.mem 𝓡.returns) in
    let z : G.Ghost = ((([], ([], tt)), (full_share, (full_share, tt)), tt, (h.alloc, (h.at, tt)), (global.lowered h.alloc ∷ [], (rawptr_vals h.at, tt))), h.value) in
    drop ! $
    use1 𝓛 (raw ((g.spec Item Heap ghosts dict drops 𝓛 𝓜.mem 𝓡.returns z.0.0 z.0.3).requires h.value))
    (insides_in 𝓤 2 ([], ([], tt)) (Inner.the_row.lives, (Global.the_row.lives, tt)) _ (inner.the_within [], (global.the_within [], tt))) $
    nothing ! $ owned ! RawPtr _ (rawptr_Makes 𝓛) h.at (rawptr_vals h.at) refl $ join ! $
    owned ! Global.the_row _ (makes Global.the_type ((λ _ _ _. (tt, (tt, tt))), tt) 𝓛) h.alloc (global.lowered h.alloc ∷ [])
    ((vstruct (vcons vunit vnil) ∷ [], tt), (refl, (((vunit ∷ [], tt), (refl, (refl, tt))), tt))) $ join ! $
    nothing ! $ use0 𝓛 (‵ (flft [] full_share)) (𝓛.lfts.lft-nil full_share) $ join ! $ use0 𝓛 (‵ (flft [] full_share)) (𝓛.lfts.lft-nil full_share) $ join ! $ join ! $
    use2 𝓛 (raw (G.pre z)) (id⊢ 𝓤 _) $
    calls_at_last ! (framed 𝓤 𝓛.H 𝓜 𝓣) G
    (met 𝓤 𝓛 𝓜 𝓡 (code.calls-std_alloc::boxed::Box::from_raw 𝓡.env wired) Item Heap (arg_laws _ no Inner.the_row inner.the_row_laws refl) (arg_laws _ no Global.the_row global.the_row_laws refl) ghosts dict drops
    (passed 𝓡.env (code.calls-std_heap::GlobalAllocator::allocate 𝓡.env wired) (code.calls-std_heap::GlobalAllocator::deallocate 𝓡.env wired)
    (code.calls-std_heap::GlobalAllocator::grow 𝓡.env wired) (code.calls-std_heap::GlobalAllocator::shrink 𝓡.env wired) M 𝓤 𝓛 𝓜 𝓡)
    (glues "flt_c::Destruct++none::drop" 𝓡.env (dropped 𝓡.env wired) Heap (arg_laws _ no Global.the_row global.the_row_laws refl) M 𝓤 𝓛 𝓜 𝓡)) z
    (and_then ! (get ! refl) (and_then ! (get ! refl) (no_more !))) (λ v.
    let E = g.ended Item Heap ghosts dict drops in
    let Bx = Box.the_row Inner.the_row Global.the_row ghosts in
    use1 𝓛 (later (some (λ (r : Bx.Denot). ((‵ (flft [] full_share) ⊛ ‵ (flft [] full_share) ⊛ ‵ ftrue) ⊛ ‵ (Bx.own_val r (v ∷ []))) ⊛
    some (λ (ws : Lasts E z.0.0 z.0.3). ‵ (lasts E z.0.0 z.0.3 ws) ⊛ raw ((g.clauses Item Heap ghosts dict drops 𝓛 𝓜.mem 𝓡.returns z.0.0 z.0.3).ensures h.value r (at_exit E z.0.0 z.0.3 ws)))))) (id⊢ 𝓤 _) $
    await ! tt $ pick ! (λ r. split ! $ split ! $ drop ! $ move ! (1 ∷ []) $ pick ! (λ ws. split ! $ drop ! $
    use1 𝓛 (raw (fact 𝓤 (r.value ≡ h.value)) ⊛ raw (fact 𝓤 (box_allocator r ≡ h.alloc))) (id⊢ 𝓤 _) $ split ! $
    heard ! _ (λ value. drop ! $ peeks ! Bx _ (shows 𝓛 Bx) r (v ∷ []) (λ is.
    let typed = ((box.the_field_loose Inner.the_row Global.the_row ghosts inner.the_row_laws global.the_row_laws).lawful 𝓛).typed r (v ∷ []) is in
    let y : W.Ghost = ((κs, qs, bounds, a, (vs, tt)), tt) in
    lands_last ! refl typed.0 $ exec ! 𝓣.C 𝓣.Λ (env code.Mir.locals l) code.Mir.t-4 (at_ret _ (W.post y)) $
    sets ! (of_opd ! (get ! refl)) refl typed.0 $
    returns ! (look_at ! 0 refl) $ free_all ! refl $
    suffices ! _ (ends_at 𝓛 f.ended stayed c y v r (tt, tt) (tt, tt)) $ says ! value $
    nothing ! $ nothing ! $ join ! $ nothing ! $ done !)))))))
