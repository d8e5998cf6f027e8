-- What the devices mean that keep their medium in an image.
use Rattle.std.specs.Prelude.{vec_items}
use Rattle.std.specs.Option.{option_to_list}
use Rattle.device.specs.Meaning.{Meaning}
use Rattle.bottoms.specs.Used.{used, over}
use Rattle.bottoms.specs.declared.banked.Banked.{Banked}
use Rattle.bottoms.specs.declared.straight.Straight.{Straight}

-- what a device with room for one waiting write means
abbrev pub straight_means : Straight → Meaning
straight_means s = over (used (vec_items s.image.0)) 1 (vec_items s.image.0) (option_to_list s.pending)

-- what a device with four channels means
abbrev pub banked_means : Banked → Meaning
banked_means s = over (used (vec_items s.image.0)) 8 (vec_items s.image.0) (vec_items s.queue)
