-- A file that is read piece by piece.
use Rattle.std.proofs.Common.{◌≡◌, ℕ, ◌≤◌, List, ◌++◌, length, take, drop, sym, ap, ◌∙◌, arith}
use Rattle.std.proofs.Math.Seq.{take-length, take-append_seam}
use Rattle.std.proofs.lemmas.List.{length-take}
use Rattle.fx_outside.specs.Host.{ReadsAt}

-- the front of the buffer that was read, cut out
pub cut_piece : (bytes buffer : List ℕ) (from n : ℕ) → n ≤ length buffer → ReadsAt bytes from n buffer → ReadsAt bytes from (length (take n buffer)) (take n buffer)
cut_piece bytes buffer from n bound reads =
    let count : length (take n buffer) ≡ n = length-take n buffer ∙ omega arith in
    record {
      bytes = take-length (take n buffer) ∙ reads.bytes ∙ ap (λ m. take m (drop from bytes)) (sym count);
      within = omega (arith, count, reads.within);
      ends = λ none. reads.ends (omega (arith, count));
    }

pub take_front : (buffer rest cut : List ℕ) (len n : ℕ) → cut ≡ take n (take len (buffer ++ rest)) → len ≡ length buffer → cut ≡ take n buffer
take_front buffer rest cut len n is all = is ∙ ap (λ m. take n (take m (buffer ++ rest))) all ∙ ap (λ x. take n x) (take-append_seam buffer rest)
