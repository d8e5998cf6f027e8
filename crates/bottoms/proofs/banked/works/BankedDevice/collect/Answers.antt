use Rattle.std.proofs.Common.{refl, rules}
use Rattle.bottoms.proofs.banked.works.BankedDevice.collect.Goals as goal

pub returns-clause-cases : goal.returns-clause-cases
returns-clause-cases c =
    let leaves = c.remove-w.ensures.items in
    record {
      place = c.in_ok-place.place;
      write = c.remove-w.result;
      within = search rules;
      is = c.remove-w.ensures.value;
      tells = refl;
      leaves = λ i. record { medium = c.land.ensures.blocks i; waiting = leaves i; size = c.land.ensures.used i; depth = 8 };
    }
