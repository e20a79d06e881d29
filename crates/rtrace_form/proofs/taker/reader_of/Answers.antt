use Rattle.std.proofs.Common.{ap, inr, ◌∙◌}
use Rattle.csv.specs.Reading.{builder_config, builder_is_flexible, builder_trim, builder_names_headers}
use Rattle.rtrace_form.proofs.taker.reader_of.Goals as goal

pub returns : goal.returns
returns c =
    let f = c.from_reader.ensures in
    let h = c.has_headers.ensures in
    let g = c.flexible.ensures in
    record {
      trim = f.trim ∙ ap builder_trim g ∙ ap builder_trim h ∙ c.new.ensures.trim;
      ready = inr (inr (f.has_headers ∙ ap builder_names_headers g ∙ ap builder_names_headers h, f.headers));
      config = f.config ∙ ap builder_config g ∙ ap builder_config h ∙ c.new.ensures.config;
      flexible = f.flexible ∙ ap builder_is_flexible g;
      source = f.source;
      state = f.state;
    }
