use Rattle.std.proofs.Common.{ℕ, length, get_or, sym, ap, ◌∙◌}
use Rattle.layout.specs.Names.{well_formed, padded}
use Rattle.finite.proofs.Tables.{length-table}
use Rattle.layout.proofs.Titles.{proper_well_formed, proper_short}
use Rattle.layout.proofs.name.NameTryFromRefSliceU8.try_from.Goals as goal

pub invariant_of-result : goal.invariant_of-result
unfolding padded
invariant_of-result c =
    let text = c.args.text.now in record {
      formed = ap well_formed c.fill_up.ensures ∙ proper_well_formed text (sym c.if-not-is_proper.ensures);
      long = ap length c.fill_up.ensures ∙ length-table 14 (λ (k : ℕ). get_or text k 0);
    }

pub fill_up-requires : goal.fill_up-requires
fill_up-requires c = record { few = proper_short c.args.text.now (sym c.if-not-is_proper.ensures) }
