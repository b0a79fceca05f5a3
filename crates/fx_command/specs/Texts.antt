-- Whole texts up to a limit, as a told tree holds them.
pub use Rattle.fx_folder.specs.Reads.{IsReadAt}
