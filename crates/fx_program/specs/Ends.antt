-- What a program's end says of its words.
use Rattle.std.specs.Prelude.{◌≡◌, ◌⊎◌, ℕ, List, None}
use Rattle.fx_words.specs.Job.{job_of}
use Rattle.fx_command.specs.Codes.{status_code}
use Rattle.fx_command.specs.declared.status.Status.{Status}
use Rattle.fx_command.specs.declared.status.Status.TheVariants as status

-- the run of these words may end so, as far as their form tells: as a wrong use just where they have no command's form, or
-- for want of memory
pub record IsEndOf (words : List (List ℕ)) (st : Status) : Type 0 where
  pub usage : st ≡ status.Usage → job_of words ≡ None
  pub refused : job_of words ≡ None → (st ≡ status.Usage) ⊎ (st ≡ status.NoMemory)

-- the code of a status with which the run of these words may end so
pub record IsCodeOf (words : List (List ℕ)) (code : ℕ) : Type 0 where
  pub st : Status
  pub ends : IsEndOf words st
  pub is : code ≡ status_code st
