-- LAWS. What checking the sizes of a run gives.
use Rattle.std.specs.Prelude.{ℕ, Result, ◌≡◌, true, false}
use Rattle.protocol.specs.declared.Refusal.{Refusal}
use Rattle.protocol.specs.declared.Refusal.TheVariants.{BadSizes}
use Rattle.chassis.specs.declared.Sizes.{Sizes}
use Rattle.chassis.specs.SizesOf.{sizes_of}
use Rattle.chassis.specs.BeginLaws.{lengths_right}

abbrev pub SizesChecked : (r k L steps words logs answers : ℕ) → Result Sizes Refusal → Type 0
SizesChecked r k L steps words logs answers (Result.Ok sizes) = (lengths_right r k L steps words logs answers ≡ true) × (sizes ≡ sizes_of r k L)
SizesChecked r k L steps words logs answers (Result.Err refusal) = (lengths_right r k L steps words logs answers ≡ false) × (refusal ≡ BadSizes)
