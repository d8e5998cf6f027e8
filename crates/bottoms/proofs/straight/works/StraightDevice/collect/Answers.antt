use Rattle.std.proofs.Common.{length, get_or, sym, refl, ap, ◌∙◌, arith}
use Rattle.std.specs.Option.{option_to_list}
use Rattle.std.specs.List.{remove}
use Rattle.bottoms.proofs.straight.works.StraightDevice.collect.Goals as goal

pub returns : goal.returns
returns c =
    let w = c.in_ok-w.w in
    let was = sym c.take.ensures.value ∙ c.in_ok-w.was in
    let leaves = ap option_to_list c.take.ensures.after ∙ sym (ap (λ o. remove (option_to_list o) 0) was) in
    record {
      place = 0;
      write = w;
      within = omega (arith, ap (λ o. length (option_to_list o)) was);
      is = sym (ap (λ o. get_or (option_to_list o) 0 w) was);
      tells = refl;
      leaves = λ i. record { medium = c.land.ensures.blocks i; waiting = leaves i; size = c.land.ensures.used i; depth = 1 };
    }
