-- Options that gave a value.
use Rattle.std.proofs.Common.{◌≡◌, Option, Some, None, option_map, option_and_then, refl}

-- an option that was chained gave a value
pub record Chained {A B : Type 0} (f : A → Option B) (o : Option A) (y : B) : Type 0 where
  pub value : A
  pub was : o ≡ Some value
  pub gave : f value ≡ Some y

pub chained : {A B : Type 0} (f : A → Option B) (o : Option A) (y : B) → option_and_then f o ≡ Some y → Chained f o y
chained f None y h = absurd (cc)
chained f (Some x) y h = record { value = x; was = refl; gave = h }

pub mapped_is : {A B : Type 0} (f : A → B) (o : Option A) (y : B) → option_map f o ≡ Some y → Chained (λ x. Some (f x)) o y
mapped_is f None y h = absurd (cc)
mapped_is f (Some x) y h = record { value = x; was = refl; gave = h }
