-- What a command reads that runs scripts on a folder, by its refusals: with views, and without.
pub use Rattle.fx_inputs.specs.Reads.{inputs_reading}
pub use Rattle.fx_inputs.specs.Views.{views_reading}
