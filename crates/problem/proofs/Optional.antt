-- Values that there may be.
use Rattle.std.proofs.Common.{◌≡◌, is_some, Some, None, Option, refl}
use Rattle.std.specs.Option.{option_map}

pub some_mapped : {X Y : Type 0} (f : X → Y) (o : Option X) → is_some o ≡ is_some (option_map f o)
some_mapped f None = refl
some_mapped f (Some x) = refl
