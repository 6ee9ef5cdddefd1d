-- Chunks that were laid out before do not matter to those that follow: what they give is laid out, measured and put behind them. Assumes nothing.
use Prim.Native.Nat.{ℕ, ◌+◌, ◌≤◌}
use mathlib.Core.Path.{◌≡◌, refl, sym, ap, subst, ◌∙◌}
use mathlib.Core.List.{List, [], ◌∷◌, ◌++◌, flat_map, foldl, append_assoc, append-nil}
use native.Mathlib.Omega.{arith}
use borrow.Author.Tests.{le-leb}
use lib.ListN.{length, length-append}
use Rattle.spec_laws.proofs.All.{fold-keeps}
use Rattle.spec.specs.Outcome.{Outcome, refused, given, and_then}
use Rattle.spec.specs.declared.Glyph.{Glyph}
use Rattle.spec.specs.declared.Cluster.{Cluster}
use Rattle.spec.specs.Job.{Job, Chunk}
use Rattle.spec.specs.Merge.{merge_glyphs}
use Rattle.spec.specs.Answer.{chunk_row_bytes}
use Rattle.spec.specs.Layout.{LaidChunk, Progress, rows_of, adjusted_clusters, place_chunk, layout_chunk}
use Rattle.wire.specs.Splice.{splice}
use Rattle.wire.proofs.Splice.{length-splice, splice-next}
use Rattle.answer_rows.specs.Chunks.{splice_if_fits}
use Rattle.chunk.specs.Steps.{progress_of, written_bytes, progress_after, result_of, buffer_after_chunks}

abbrev pub prefixed : List LaidChunk → Progress → Progress
prefixed ls st = record { pen = st.pen; offset = st.offset; extent = st.extent; chunks = ls ++ st.chunks }

abbrev pub on_given : {A : Type 0} → (A → A) → Outcome A → Outcome A
on_given f (refused n) = refused n
on_given f (given a) = given (f a)

then-on : {A B : Type 0} (h : B → B) (o : Outcome A) (f g : A → Outcome B) → ((a : A) → f a ≡ on_given h (g a)) → and_then o f ≡ on_given h (and_then o g)
unfolding and_then
then-on h (refused n) f g e = refl
then-on h (given a) f g e = e a

-- ---- the layout

module _ (j : Job) (ls : List LaidChunk) where
  placed : (st : Progress) (c : Chunk) (gs : List Glyph) (cs : List Cluster) → place_chunk j (prefixed ls st) c gs cs ≡ prefixed ls (place_chunk j st c gs cs)
  unfolding place_chunk
  placed st c gs [] = rw (append_assoc ls st.chunks) refl
  placed st c gs (k ∷ ks) = rw (append_assoc ls st.chunks) refl

  laid : (o : Outcome Progress) (c : Chunk) → layout_chunk j (on_given (prefixed ls) o) c ≡ on_given (prefixed ls) (layout_chunk j o c)
  unfolding layout_chunk
  laid (refused n) c = refl
  laid (given st) c =
      then-on (prefixed ls) (merge_glyphs c.parts) _ _ (λ gs. then-on (prefixed ls) (adjusted_clusters j c gs) _ _ (λ cs. ap {B = Outcome Progress} given (placed st c gs cs)))

  all_laid : (cs : List Chunk) (o : Outcome Progress) → foldl (layout_chunk j) (on_given (prefixed ls) o) cs ≡ on_given (prefixed ls) (foldl (layout_chunk j) o cs)
  all_laid [] o = refl
  all_laid (c ∷ cs) o = ap (λ (o : Outcome Progress). foldl (layout_chunk j) o cs) (laid o c) ∙ all_laid cs (layout_chunk j o c)

pub refused-stays : (j : Job) (n : ℕ) (cs : List Chunk) → foldl (layout_chunk j) (refused n) cs ≡ refused n
unfolding layout_chunk
refused-stays j n cs =
    fold-keeps (λ (o : Outcome Progress). o ≡ refused n) (layout_chunk j) (λ o c e. ap (λ (o : Outcome Progress). layout_chunk j o c) e) (refused n) refl cs

-- ---- its bytes

rows_append : (ls ms : List LaidChunk) → flat_map chunk_row_bytes (rows_of (ls ++ ms)) ≡ flat_map chunk_row_bytes (rows_of ls) ++ flat_map chunk_row_bytes (rows_of ms)
unfolding flat_map
rows_append [] ms = refl
rows_append (l ∷ ls) ms =
    ap (λ (bs : List ℕ). chunk_row_bytes l.row ++ bs) (rows_append ls ms) ∙ sym (append_assoc (chunk_row_bytes l.row) (flat_map chunk_row_bytes (rows_of ls)) (flat_map chunk_row_bytes (rows_of ms)))

module _ (st : Progress) where
  bytes-behind : (after : Progress) → written_bytes (prefixed st.chunks after) ≡ written_bytes st ++ written_bytes after
  unfolding written_bytes
  bytes-behind after = rows_append st.chunks after.chunks

  length-behind : (n : ℕ) (after : Progress) → n + length (written_bytes (prefixed st.chunks after)) ≡ n + length (written_bytes st) + length (written_bytes after)
  length-behind n after = ap (λ (bs : List ℕ). n + length bs) (bytes-behind after) ∙ ap (λ (k : ℕ). n + k) (length-append (written_bytes st) (written_bytes after)) ∙ omega arith

  measured : (n : ℕ) (o : Outcome Progress) → result_of n (on_given (prefixed st.chunks) o) ≡ result_of (n + length (written_bytes st)) o
  unfolding result_of progress_after
  measured n (refused k) = refl
  measured n (given after) = rw (length-behind n after) refl

-- the whole ends by `room`, if it begins behind n bytes
abbrev pub FitsFrom : ℕ → ℕ → Outcome Progress → Type 0
FitsFrom room n (refused k) = ⊥
FitsFrom room n (given st) = n + length (written_bytes st) ≤ room

pub put-fits : (out : List ℕ) (n : ℕ) (bs : List ℕ) → n + length bs ≤ length out → splice_if_fits out n bs ≡ splice out n bs
unfolding splice_if_fits
put-fits out n bs h = rw (le-leb (n + length bs) (length out) h) refl

-- ---- a chunk was laid out, and n bytes came before it: the code goes on from its own state

module _ (j : Job) (cs : List Chunk) (n : ℕ) (st : Progress) where
  abbrev whole : Outcome Progress
  whole = foldl (layout_chunk j) (given st) cs

  abbrev rest : Outcome Progress
  rest = foldl (layout_chunk j) (given (progress_of (progress_after n st))) cs

  whole_is : whole ≡ on_given (prefixed st.chunks) rest
  unfolding progress_after
  whole_is =
      ap (λ (ls : List LaidChunk). foldl (layout_chunk j) (given (record { pen = st.pen; offset = st.offset; extent = st.extent; chunks = ls })) cs) (sym (append-nil st.chunks))
      ∙ all_laid j st.chunks cs (given (progress_of (progress_after n st)))

  pub measured-on : result_of (n + length (written_bytes st)) rest ≡ result_of n whole
  measured-on = sym (measured st n rest) ∙ ap (result_of n) (sym whole_is)

  module _ (old : List ℕ) (fits : FitsFrom (length old) n whole) where
    behind-fits : (o : Outcome Progress) → FitsFrom (length old) n (on_given (prefixed st.chunks) o) → FitsFrom (length old) (n + length (written_bytes st)) o
    behind-fits (refused k) h = h
    behind-fits (given after) h = let same = length-behind st n after in omega arith

    pub fits_on : FitsFrom (length old) (n + length (written_bytes st)) rest
    fits_on = behind-fits rest (subst (FitsFrom (length old) n) whole_is fits)

    first_fits : (o : Outcome Progress) → FitsFrom (length old) (n + length (written_bytes st)) o → n + length (written_bytes st) ≤ length old
    first_fits (refused k) h = absurd h
    first_fits (given after) h = omega arith

    put-behind : (o : Outcome Progress) → FitsFrom (length old) (n + length (written_bytes st)) o
        → buffer_after_chunks (splice old n (written_bytes st)) (n + length (written_bytes st)) o ≡ buffer_after_chunks old n (on_given (prefixed st.chunks) o)
    unfolding buffer_after_chunks
    put-behind (refused k) h = absurd h
    put-behind (given after) h =
        let kept : length (splice old n (written_bytes st)) ≡ length old = length-splice old n (written_bytes st) (omega arith) in
        put-fits (splice old n (written_bytes st)) (n + length (written_bytes st)) (written_bytes after) (omega (arith, kept, h))
        ∙ splice-next old n (written_bytes st) (n + length (written_bytes st)) (written_bytes after) refl (omega arith)
        ∙ ap (splice old n) (sym (bytes-behind st after))
        ∙ sym (put-fits old n (written_bytes (prefixed st.chunks after)) (let same = length-behind st n after in omega arith))

    module _ (new : List ℕ) (put : new ≡ buffer_after_chunks old n (given st)) where
      put_is : new ≡ splice old n (written_bytes st)
      unfolding buffer_after_chunks
      put_is = put ∙ put-fits old n (written_bytes st) (first_fits rest fits_on)

      pub put_on : buffer_after_chunks new (n + length (written_bytes st)) rest ≡ buffer_after_chunks old n whole
      put_on =
          ap (λ (l : List ℕ). buffer_after_chunks l (n + length (written_bytes st)) rest) put_is
          ∙ put-behind rest fits_on
          ∙ ap (buffer_after_chunks old n) (sym whole_is)
