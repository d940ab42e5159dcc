-- Document 01, "The job file": the glass line.
pub mod GlassLine
pub mod Internal
