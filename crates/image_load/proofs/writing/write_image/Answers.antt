use Rattle.std.proofs.Common.{◌≡◌, ◌++◌, ◌∙◌, ap, sym, subst}
use Rattle.std.specs.List.{flat_map, AllByRecursion}
use Rattle.micro_isa.specs.Formed.{Each}
use Rattle.image_load.specs.Spelling.{FitsChannel, FitsCode, header_bytes, channel_bytes, code_bytes, image_bytes}
use Rattle.image_load.specs.Writing.{IsSmallPart, IsSmallCode}
use Rattle.image_load.proofs.Formed.{small_parts, small_codes, appended}
use Rattle.image_load.proofs.writing.write_image.Goals as goal

pub put_channels-requires : goal.put_channels-requires
put_channels-requires c = subst (λ l. Each l IsSmallPart) (sym c.as_slice.ensures) (small_parts c.args.image.now.setting c.requires.formed.setting)

pub put_codes-requires : goal.put_codes-requires
put_codes-requires c = subst (λ l. Each l IsSmallCode) (sym c.as_slice-2.ensures) (small_codes c.args.image.now c.requires.formed)

pub returns : goal.returns
unfolding image_bytes
returns c =
    let m = c.args.image.now in
    let h = c.in_ok-put_header.ensures in
    let channels = c.in_ok-put_channels.ensures in
    let codes = c.in_ok-put_codes.ensures in
    let header : c.put_header.new.out.items ≡ header_bytes m = h ∙ ap (λ l. l ++ header_bytes m) c.in_ok-out.ensures in
    let middle : c.put_channels.new.out.items ≡ header_bytes m ++ flat_map channel_bytes m.setting.channels = channels.bytes ∙ ap (λ l. l ++ flat_map channel_bytes c.as_slice.result.now) header ∙ ap (λ l. header_bytes m ++ flat_map channel_bytes l) c.as_slice.ensures in
    let last : c.put_codes.new.out.items ≡ c.put_channels.new.out.items ++ flat_map code_bytes m.contexts = codes.bytes ∙ ap (λ l. c.put_channels.new.out.items ++ flat_map code_bytes l) c.as_slice-2.ensures in
    record {
      formed = c.requires.formed;
      fits = record {
        initial = subst (AllByRecursion FitsChannel) c.as_slice.ensures channels.fits;
        words = subst (AllByRecursion FitsCode) c.as_slice-2.ensures codes.fits;
      };
      spelt = appended (header_bytes m) c.put_channels.new.out.items c.put_codes.new.out.items (flat_map channel_bytes m.setting.channels) (flat_map code_bytes m.contexts) middle last;
    }
