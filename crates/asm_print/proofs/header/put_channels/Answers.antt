use Rattle.std.proofs.Common.{◌≡◌, ◌++◌, List, [], ◌∷◌, sym, ◌∙◌, ℕ, append-nil, inl, inr, ◌⊎◌}
use Rattle.std.proofs.lemmas.Slice.Zip.{either_empty_from_Zip}
use Rattle.micro_isa.specs.declared.program.Channel.{Channel}
use Rattle.asm_print.specs.Rows.{rows_text}
use Rattle.asm_print.specs.Canonical.{channels_rows}
use Rattle.asm_print.proofs.header.put_channels.Goals as goal

ended : (names : List (List ℕ)) (channels : List Channel) (done all : List ℕ) → (names ≡ []) ⊎ (channels ≡ []) → done ++ rows_text (channels_rows names channels) ≡ all → done ≡ all
ended [] channels done all e h = sym (append-nil done) ∙ h
ended (n ∷ ns) [] done all e h = sym (append-nil done) ∙ h
ended (n ∷ ns) (c ∷ cs) done all (inl e) h = absurd (cc)
ended (n ∷ ns) (c ∷ cs) done all (inr e) h = absurd (cc)

pub returns : goal.returns
returns c = ended _ _ _ _ (either_empty_from_Zip c.loop-name.name-iterator c.next.new.self c.next.result c.in-None.is c.next.ensures.steps) c.loop-name.invariant
