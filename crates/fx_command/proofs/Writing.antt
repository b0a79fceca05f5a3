-- Writing bytes piece by piece: what is written is a front of them, until the end.
use Rattle.std.proofs.Common.{◌≡◌, ℕ, ◌+◌, ◌≤◌, List, ◌++◌, take, drop, Option, Some, None, refl, sym, ap, ◌∙◌, arith, append_assoc, append-nil}
use Rattle.std.specs.Option.{option_map}
use Rattle.std.proofs.Math.Seq.{take-add}
use Rattle.std.proofs.lemmas.List.{drop-drop}
use Rattle.fx_outside.specs.Sink.{SinkView}

-- between two writes
pub record IsWriting (bytes rest : List ℕ) (old now : SinkView) : Type 0 where
  pub count : ℕ
  pub left : rest ≡ drop count bytes
  pub so_far : now.written ≡ option_map (λ w. w ++ take count bytes) old.written
  pub later : old.faults ≤ now.faults

nothing_yet : (bytes : List ℕ) (before : Option (List ℕ)) → before ≡ option_map (λ w. w ++ take 0 bytes) before
nothing_yet bytes None = refl
nothing_yet bytes (Some w) = ap (λ x. Some x) (sym (append-nil w))

pub begins : (bytes : List ℕ) (sink : SinkView) → IsWriting bytes bytes sink sink
begins bytes sink = record { count = 0; left = refl; so_far = nothing_yet bytes sink.written; later = omega arith }

more_written : (bytes rest : List ℕ) (n m : ℕ) (before : Option (List ℕ)) → rest ≡ drop n bytes → option_map (λ w. w ++ take m rest) (option_map (λ w. w ++ take n bytes) before) ≡ option_map (λ w. w ++ take (n + m) bytes) before
more_written bytes rest n m None left = refl
more_written bytes rest n m (Some w) left = ap (λ x. Some x) (append_assoc w (take n bytes) (take m rest) ∙ ap (λ r. w ++ (take n bytes ++ take m r)) left ∙ ap (λ x. w ++ x) (sym (take-add n m bytes)))

pub goes_on : (bytes rest rest' : List ℕ) (m : ℕ) (old now now' : SinkView) → IsWriting bytes rest old now → now'.written ≡ option_map (λ w. w ++ take m rest) now.written → now.faults ≤ now'.faults → rest' ≡ drop m rest → IsWriting bytes rest' old now'
goes_on bytes rest rest' m old now now' was wrote later cut = record {
  count = was.count + m;
  left = cut ∙ ap (λ r. drop m r) was.left ∙ drop-drop m was.count bytes;
  so_far = wrote ∙ ap (λ o. option_map (λ w. w ++ take m rest) o) was.so_far ∙ more_written bytes rest was.count m old.written was.left;
  later = omega (arith, was.later);
}
