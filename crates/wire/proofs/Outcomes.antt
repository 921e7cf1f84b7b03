-- What an Option or a Result that came through a test says of the test.
use Rattle.std.proofs.Common.{◌≡◌, Bool, true, false, cond, ◌&&◌, Some, None, Ok, Err, Option, Result, refl}
use Rattle.std.proofs.Math.Bool.{not}
use Rattle.std.specs.Option.{option_map}

pub mapped_some : {A B : Type 0} (f : A → B) (o : Option A) (y : B) → Some y ≡ option_map f o → (v : A) × (o ≡ Some v) × (y ≡ f v)
mapped_some f None y e = cc
mapped_some f (Some v) y e = (v, refl, cc)

-- a value that a test let through
pub passed : {A : Type 0} (b : Bool) (x : Option A) (v : A) → cond b x None ≡ Some v → (b ≡ true) × (x ≡ Some v)
passed true x v e = (refl, e)
passed false x v e = cc

-- an answer behind a refusal that was not given, where the test is for the refusal, and where it is against it
pub past : {A E : Type 0} (b : Bool) (why : E) (r : Result A E) (x : A) → cond b (Err why) r ≡ Ok x → (b ≡ false) × (r ≡ Ok x)
past true why r x e = cc
past false why r x e = (refl, e)

pub past_not : {A E : Type 0} (b : Bool) (why : E) (r : Result A E) (x : A) → cond b r (Err why) ≡ Ok x → (b ≡ true) × (r ≡ Ok x)
past_not true why r x e = (refl, e)
past_not false why r x e = cc

-- a test that says no, and else another, is both of them against and for
pub unless : (b r : Bool) → cond b false r ≡ (not b && r)
unless true r = refl
unless false r = refl
