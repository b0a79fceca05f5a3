-- Words on what may be told.
use Rattle.fx_folder.proofs.Prelude.{IfSome, None, Option, Some}

pub if_some_both : {A : Type 0} (P Q R : A → Type 0) (o : Option A) → ((x : A) → P x → Q x → R x) → IfSome o P → IfSome o Q → IfSome o R
if_some_both P Q R None f p q = tt
if_some_both P Q R (Some x) f p q = f x p q
