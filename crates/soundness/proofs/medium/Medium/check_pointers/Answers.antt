use Rattle.std.proofs.Common.{◌≡◌, true, ◌+◌, ◌*◌, Bool, List, Some, sym, ap, ◌∙◌, subst, arith}
use Rattle.layout.specs.declared.refusal.Place.{Place}
use Rattle.layout.specs.declared.refusal.Refusal.TheVariants.{BadPointer}
use Rattle.soundness.specs.Faults.{pointer_fault}
use Rattle.soundness.proofs.Led.{Passed, none_passed, data_few, leads_nowhere, fault_unmarked, fault_twice, leads_once, told}
use Rattle.soundness.proofs.medium.Medium.check_pointers.Goals as goal
use Rattle.soundness.proofs.medium.Medium.check_pointers.Goals.{then-is_marked_data+else-not-led-b, else-is_marked_data, in-0, in_default}

pub loop-q-init : goal.loop-q-init
loop-q-init c = none_passed c.args.self.now.geometry.shape c.args.self.now.table.now

pub returns-in_default-2 : goal.returns-in_default-2
returns-in_default-2 c =
    let self = c.args.self.now in
    let g = self.geometry.shape in
    let m = self.table.now in
    let at = c.loop-q in
    let b = c.pointer.result in
    let some : b ≡ 0 → ⊥ = (λ e. omega arith) in
    let fault : pointer_fault g m at.q ≡ true =
    elim c.if-is_marked_data.branch [
      | then-is_marked_data+else-not-led-b w ↦
          fault_twice g m at.q b at.led at.invariant c.pointer.ensures some
          (data_few g m b self.geometry.good.blocks_high (sym w.if-is_marked_data.ensures)) w.if-not-led-b.false
      | else-is_marked_data w ↦ fault_unmarked g m at.q b at.led at.invariant c.pointer.ensures some (sym w.if-is_marked_data.ensures)
    ] in
    ap (λ (p : Place). Some (BadPointer p)) c.pointer_place.ensures ∙ told g m at.q (6 * g.inodes) at.led at.invariant c.loop-q-test.true fault

pub loop-q-preserved : goal.loop-q-preserved
loop-q-preserved c =
    let self = c.args.self.now in
    let g = self.geometry.shape in
    let m = self.table.now in
    let at = c.loop-q in
    let b = c.pointer.result in
    let After : List Bool → Type 0 = Passed g m (at.q + 1) in
    elim c.match-pointer.branch [
      | in-0 w ↦ subst After (sym w.led-is) (leads_nowhere g m at.q b at.led at.invariant c.pointer.ensures w.in-0.is)
      | in_default w ↦
          let marked = sym w.if-is_marked_data.ensures in
          subst After (sym w.led-is)
          (leads_once g m at.q b at.led at.invariant c.pointer.ensures (λ e. omega arith) (data_few g m b self.geometry.good.blocks_high marked) marked w.if-not-led-b.true)
    ]
